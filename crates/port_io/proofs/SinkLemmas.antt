-- Bytes that a sink took one after another.
use Rattle.std.proofs.Common.{◌≡◌, ℕ, ◌+◌, ◌-◌, List, ◌++◌, length, take, drop, Option, None, Some, Bool, true, false, cond, leb, refl, sym, ap, ◌∙◌, arith, append_assoc, length-append}
use Rattle.std.proofs.lemmas.Bool.Decides.{nat_tests}
use Rattle.port_io.specs.Bytes.{told, Took}
use Rattle.port_io.proofs.ListLemmas.{take-rest_add}

-- more bytes than what passed the room pass it too
past_room : (room : ℕ) (bytes more : List ℕ) → leb (length bytes) room ≡ false → told (Some room) (bytes ++ more) ≡ None
past_room room bytes more e = grind (arith, nat_tests, length-append)

-- a sink that tells nothing of these bytes tells nothing of more
told-past : (room : ℕ) (bytes more : List ℕ) (fits : Bool) → leb (length bytes) room ≡ fits → None ≡ cond fits (Some bytes) None → told (Some room) (bytes ++ more) ≡ None
told-past room bytes more true e p = cc
told-past room bytes more false e p = past_room room bytes more e

-- what a sink tells of these bytes is all of them
told-all : (bytes shown : List ℕ) (fits : Bool) → Some shown ≡ cond fits (Some bytes) None → shown ≡ bytes
told-all bytes shown true p = cc
told-all bytes shown false p = cc

-- what a sink tells that told of these bytes and took more
told-then : (room : ℕ) (bytes more : List ℕ) (b c : Option (List ℕ)) → b ≡ told (Some room) bytes → Took (Some room) b c more → c ≡ told (Some room) (bytes ++ more)
told-then room bytes more None c p q = q ∙ sym (told-past room bytes more (leb (length bytes) room) refl p)
told-then room bytes more (Some shown) c p q = rw (← told-all bytes shown (leb (length bytes) room) p) q

-- a sink took some bytes and then others
pub Took-then : (room : Option ℕ) (a b c : Option (List ℕ)) (x y : List ℕ) → Took room a b x → Took room b c y → Took room a c (x ++ y)
Took-then room None None c x y p q = q
Took-then room None (Some b) c x y p q = absurd (cc p)
Took-then None (Some a) None c x y p q = absurd (cc p)
Took-then None (Some a) (Some b) c x y p q = cc (append_assoc a x y, p, q)
Took-then (Some room) (Some a) b c x y p q = told-then room (a ++ x) y b c p q ∙ ap (told (Some room)) (append_assoc a x y)

-- a sink took the bytes before a place, and then some of those from there on
pub Took-more : (room later : Option ℕ) (a b c : Option (List ℕ)) (bytes : List ℕ) (at count : ℕ) → later ≡ room → Took room a b (take at bytes) → Took later b c (take count (take (length bytes - at) (drop at bytes))) → Took room a c (take (at + count) bytes)
Took-more room later a b c bytes at count e p q = rw (← take-rest_add bytes at count) (Took-then room a b c _ _ p (rw e at q))
