-- Calls on an `Out`, one after another, and the end of an output.
use Rattle.std.proofs.Common.{◌≡◌, ℕ, ◌+◌, ◌<◌, Bool, false, List, [], ◌++◌, length, take, drop, get_or, Option, Result, Ok, Err, refl, sym, ap, subst, ◌∙◌, arith, append_assoc, length-append}
use Rattle.std.specs.Prelude.{IsErr, IsTrue}
use Rattle.std.specs.List.{flat_map}
use Rattle.std.proofs.lemmas.List.{append-nil, take-append-le, take_more, flat_map_more, take-append-drop}
use Rattle.std.proofs.lemmas.List.Concat.{flat_map-append}
use Rattle.std.proofs.Math.Seq.{take-append-add}
use Rattle.port_io.specs.Faults.{HasCause}
use Rattle.port_io.specs.Bytes.{Took, TookFront}
use Rattle.port_io.specs.declared.buffered.Out.{Out}
use Rattle.port_io.specs.Output.{SinkView, Stage, fresh, Puts, IsHeard, Waits, Put, PutOn, Wrote}
use Rattle.port_io.proofs.SinkLemmas.{Took-then}

-- a call that did not fail, and then another
pub HasCause-then : {T E U F : Type 0} {a b c : ℕ} {u : U} → HasCause {T = U} {E = F} a b (Ok u) → (r : Result T E) → HasCause b c r → HasCause a c r
HasCause-then p (Ok v) q = record { later = omega (arith, p.later, q.later); failed = tt }
HasCause-then p (Err e) q = record { later = omega (arith, p.later, q.later); failed = λ h. omega (arith, p.later, q.failed h) }

-- no call failed that wasn't heard of, in two calls one after another
pub IsHeard-then : {T E U F : Type 0} {a b c : SinkView} {u : U} → IsHeard {T = U} {E = F} a b (Ok u) → (r : Result T E) → IsHeard b c r → IsHeard a c r
IsHeard-then {a = a} {b = b} p (Ok v) q = record {
  same = q.same ∙ p.same;
  quiet = λ strict. q.quiet (subst IsTrue (sym p.same) strict) ∙ p.quiet strict;
}
IsHeard-then p (Err e) q = record { same = q.same ∙ p.same; quiet = λ strict. tt }

-- bytes went on, and then others
pub Puts-then : {room : Option ℕ} {a b c : Option (List ℕ)} {v w z x y : List ℕ} → Puts room a v b w x → Puts room b w c z y → Puts room a v c z (x ++ y)
Puts-then {room = room} {a = a} {b = b} {c = c} {v = v} {w = w} {z = z} {x = x} {y = y} p q = record {
  sent = p.sent ++ q.sent;
  parts = cc (append_assoc v x y, append_assoc p.sent w y, append_assoc p.sent q.sent z, p.parts, q.parts);
  took = Took-then room a b c p.sent q.sent p.took q.took;
}

-- bytes went on, and then the sink took a front of what waited and of others
pub TookFront-then : {room : Option ℕ} {a b c : Option (List ℕ)} {v w x : List ℕ} (y : List ℕ) → Puts room a v b w x → TookFront room b c (w ++ y)
    → TookFront room a c (v ++ (x ++ y))
TookFront-then {room = room} {a = a} {b = b} {c = c} {v = v} {w = w} {x = x} y p q =
    let whole : v ++ (x ++ y) ≡ p.sent ++ (w ++ y) = cc (append_assoc v x y, append_assoc p.sent w y, p.parts) in
    record {
      count = length p.sent + q.count;
      within = rw (whole, length-append) (omega (arith, q.within));
      took = rw (whole, take-append-add) (Took-then room a b c p.sent (take q.count (w ++ y)) p.took q.took);
    }

-- a front of bytes is one of more
pub TookFront-longer : {room : Option ℕ} {a c : Option (List ℕ)} {x : List ℕ} (y : List ℕ) → TookFront room a c x → TookFront room a c (x ++ y)
TookFront-longer {x = x} y p = record {
  count = p.count;
  within = rw length-append (omega (arith, p.within));
  took = let h = p.within in rw (take-append-le p.count x y h) p.took;
}

-- bytes were kept behind those that waited
pub Put-kept : {T E : Type 0} {v : T} (a c : Stage) (bytes : List ℕ) → Took a.sink.room a.sink.taken a.sink.taken [] → c.sink ≡ a.sink
    → c.waiting ≡ a.waiting ++ bytes → c.failed ≡ false → Put {E = E} a c bytes (Ok v)
Put-kept a c bytes nothing sink waiting open_ = record {
  ok = record { sent = []; parts = sym waiting; took = rw (sink) nothing };
  err = tt;
  failed = open_;
  room = ap (λ (s : SinkView). s.room) sink;
  cause = record { later = rw (sink) (omega arith); failed = tt };
  heard = record { same = ap (λ (s : SinkView). s.is_strict) sink; quiet = λ _. ap (λ (s : SinkView). s.faults) sink };
  lazy = λ _. record { ok = refl; sink = sink; waiting = waiting };
}

-- bytes that wait, and others behind them
Waits-then : {T E U F : Type 0} {a b c : Stage} {x y : List ℕ} {u : U} {r : Result T E} → Waits {T = U} {E = F} a b x (Ok u) → Waits b c y r → Waits a c (x ++ y) r
Waits-then {a = a} {x = x} {y = y} p q = record {
  ok = q.ok;
  sink = q.sink ∙ p.sink;
  waiting = q.waiting ∙ (ap (λ w. w ++ y) p.waiting ∙ append_assoc a.waiting x y);
}

-- the first bytes wait, and then the others do, where all of them are few
lazy-then : {T E U F : Type 0} {a b c : Stage} {x y : List ℕ} {u : U} {r : Result T E}
    → Put {T = U} {E = F} a b x (Ok u) → Put b c y r → length a.waiting + length (x ++ y) < 4096 → Waits a c (x ++ y) r
lazy-then {a = a} {x = x} {y = y} p q few =
    let count = length-append x y in
    let first = p.lazy (omega (arith, few, count)) in
    let waits = ap length first.waiting in
    Waits-then first (q.lazy (omega (arith, few, count, waits, length-append a.waiting x)))

-- a call that did not fail, and then another: both texts were put
Put-then : {T E U F : Type 0} {a b c : Stage} {x y : List ℕ} {u : U} {r : Result T E} → Put {T = U} {E = F} a b x (Ok u) → Put b c y r → Put a c (x ++ y) r
Put-then {r = Ok v} p q = record {
  ok = Puts-then p.ok (rw p.room at q.ok);
  err = tt;
  failed = q.failed;
  room = q.room ∙ p.room;
  cause = HasCause-then p.cause (Ok v) q.cause;
  heard = IsHeard-then p.heard (Ok v) q.heard;
  lazy = lazy-then p q;
}
Put-then {y = y} {r = Err e} p q = record {
  ok = tt;
  err = TookFront-then y p.ok (rw p.room at q.err);
  failed = q.failed;
  room = q.room ∙ p.room;
  cause = HasCause-then p.cause (Err e) q.cause;
  heard = IsHeard-then p.heard (Err e) q.heard;
  lazy = lazy-then p q;
}

-- a call that failed: no more of the text went on
Put-stop : {T E U F : Type 0} {a b : Stage} {x : List ℕ} {q : Result U F} {r : Result T E} (y : List ℕ) → IsErr q → IsErr r → Put a b x q → Put a b (x ++ y) r
Put-stop {q = Ok u} {r = r} y i j p = cc
Put-stop {q = Err d} {r = Ok v} y i j p = cc
Put-stop {x = x} {q = Err d} {r = Err e} y i j p = record {
  ok = tt;
  err = let front = TookFront-longer y p.err in rw append_assoc at front;
  failed = p.failed;
  room = p.room;
  cause = record { later = p.cause.later; failed = p.cause.failed };
  heard = record { same = p.heard.same; quiet = λ _. tt };
  lazy = λ few. absurd (let none = (p.lazy (omega (arith, few, length-append x y))).ok in cc);
}

-- a loop that puts the text of each element: the text of the elements up to the next one
flat_map-next : {X : Type 0} (f : X → List ℕ) (xs : List X) (i : ℕ) (d : X) → i < length xs
    → flat_map f (take i xs) ++ f (get_or xs i d) ≡ flat_map f (take (i + 1) xs)
flat_map-next f xs i d h = flat_map_more f [] (take i xs) (get_or xs i d) ∙ ap (flat_map f) (sym (take_more xs i d h))

flat_map-rest : {X : Type 0} (f : X → List ℕ) (xs : List X) (i : ℕ) → flat_map f (take i xs) ++ flat_map f (drop i xs) ≡ flat_map f xs
flat_map-rest f xs i = sym (flat_map-append f (take i xs) (drop i xs)) ∙ ap (flat_map f) (take-append-drop i xs)

-- ---- calls on one `Out`
-- the value that a call answers is no matter
PutOn-as : {K T E U F : Type 0} {room : K → Option ℕ} {taken : K → Option (List ℕ)} {faults : K → ℕ} {is_strict : Bool}
    {a b : Out K} {x : List ℕ} {u : U} (v : T)
    → PutOn {T = U} {E = F} room taken faults is_strict a b x (Ok u) → PutOn {T = T} {E = E} room taken faults is_strict a b x (Ok v)
PutOn-as v p = record {
  same = p.same;
  put = record {
    ok = p.put.ok;
    err = tt;
    failed = p.put.failed;
    room = p.put.room;
    cause = record { later = p.put.cause.later; failed = tt };
    heard = record { same = p.put.heard.same; quiet = p.put.heard.quiet };
    lazy = λ few. let waits = p.put.lazy few in record { ok = refl; sink = waits.sink; waiting = waits.waiting };
  };
}

-- a call that did not fail, and then another: both texts were put
pub PutOn-then : {K T E U F : Type 0} {room : K → Option ℕ} {taken : K → Option (List ℕ)} {faults : K → ℕ} {is_strict : Bool}
    {a b c : Out K} {x y : List ℕ} {u : U} {r : Result T E}
    → PutOn {T = U} {E = F} room taken faults is_strict a b x (Ok u) → PutOn room taken faults is_strict b c y r → PutOn room taken faults is_strict a c (x ++ y) r
PutOn-then p q = record { same = q.same ∙ p.same; put = Put-then p.put q.put }

-- a call that failed: no more of the text went on
pub PutOn-stop : {K T E U F : Type 0} {room : K → Option ℕ} {taken : K → Option (List ℕ)} {faults : K → ℕ} {is_strict : Bool}
    {a b : Out K} {x : List ℕ} {q : Result U F} {r : Result T E} (y : List ℕ)
    → IsErr q → IsErr r → PutOn room taken faults is_strict a b x q → PutOn room taken faults is_strict a b (x ++ y) r
PutOn-stop y i j p = record { same = p.same; put = Put-stop y i j p.put }

-- the step of a loop that puts the text of each element
pub PutOn-next : {X K T E U F V G : Type 0} {room : K → Option ℕ} {taken : K → Option (List ℕ)} {faults : K → ℕ} {is_strict : Bool}
    {a b c : Out K} {u : U} {t : T} {v : V}
    (f : X → List ℕ) (xs : List X) (i : ℕ) (d : X) → i < length xs
    → PutOn {T = U} {E = F} room taken faults is_strict a b (flat_map f (take i xs)) (Ok u)
    → PutOn {T = T} {E = E} room taken faults is_strict b c (f (get_or xs i d)) (Ok t)
    → PutOn {T = V} {E = G} room taken faults is_strict a c (flat_map f (take (i + 1) xs)) (Ok v)
PutOn-next {v = v} f xs i d h p q = rw (← flat_map-next f xs i d h) (PutOn-as v (PutOn-then p q))

-- the exit of such a loop where the text of an element failed
pub PutOn-next_stop : {X K T E U F V G : Type 0} {room : K → Option ℕ} {taken : K → Option (List ℕ)} {faults : K → ℕ} {is_strict : Bool}
    {a b c : Out K} {u : U} {q : Result T E} {r : Result V G}
    (f : X → List ℕ) (xs : List X) (i : ℕ) (d : X) → i < length xs → IsErr q → IsErr r
    → PutOn {T = U} {E = F} room taken faults is_strict a b (flat_map f (take i xs)) (Ok u)
    → PutOn room taken faults is_strict b c (f (get_or xs i d)) q
    → PutOn room taken faults is_strict a c (flat_map f xs) r
PutOn-next_stop f xs i d h m n p q =
    let put = PutOn-stop (flat_map f (drop (i + 1) xs)) m n (PutOn-then p q) in
    rw (flat_map-next f xs i d h, flat_map-rest f xs (i + 1)) at put

-- the same step for an element that is known by its place alone
pub PutOn-next_item : {X K T E U F V G : Type 0} {room : K → Option ℕ} {taken : K → Option (List ℕ)} {faults : K → ℕ} {is_strict : Bool}
    {a b c : Out K} {u : U} {t : T} {v : V}
    (f : X → List ℕ) (xs : List X) (i : ℕ) (x : X) → x ≡ get_or xs i x → i < length xs
    → PutOn {T = U} {E = F} room taken faults is_strict a b (flat_map f (take i xs)) (Ok u)
    → PutOn {T = T} {E = E} room taken faults is_strict b c (f x) (Ok t)
    → PutOn {T = V} {E = G} room taken faults is_strict a c (flat_map f (take (i + 1) xs)) (Ok v)
PutOn-next_item {X = X} {T = T} {E = E} {room = room} {taken = taken} {faults = faults} {is_strict = is_strict} {b = b} {c = c} {t = t} f xs i x e h p q =
    PutOn-next f xs i x h p (let P = λ (y : X). PutOn {T = T} {E = E} room taken faults is_strict b c (f y) (Ok t) in subst P e q)

-- the same exit for such an element
pub PutOn-next_item_stop : {X K T E U F V G : Type 0} {room : K → Option ℕ} {taken : K → Option (List ℕ)} {faults : K → ℕ} {is_strict : Bool}
    {a b c : Out K} {u : U} {q : Result T E} {r : Result V G}
    (f : X → List ℕ) (xs : List X) (i : ℕ) (x : X) → x ≡ get_or xs i x → i < length xs → IsErr q → IsErr r
    → PutOn {T = U} {E = F} room taken faults is_strict a b (flat_map f (take i xs)) (Ok u)
    → PutOn room taken faults is_strict b c (f x) q
    → PutOn room taken faults is_strict a c (flat_map f xs) r
PutOn-next_item_stop {X = X} {room = room} {taken = taken} {faults = faults} {is_strict = is_strict} {b = b} {c = c} {q = q} f xs i x e h m n p s =
    PutOn-next_stop f xs i x h m n p (let P = λ (y : X). PutOn room taken faults is_strict b c (f y) q in subst P e s)

-- a text that was put to a new `Out`, and the end: the sink took the text
Wrote-all : {T E U F : Type 0} {view after : SinkView} {s : Stage} {bytes : List ℕ} {u : U} {r : Result T E}
    → Put {T = U} {E = F} (fresh view) s bytes (Ok u) → Wrote s.sink after s.waiting r → Wrote view after bytes r
Wrote-all {view = view} {after = after} {s = s} {bytes = bytes} {r = Ok v} p q = record {
  ok = rw (p.ok.parts) (Took-then view.room view.taken s.sink.taken after.taken p.ok.sent s.waiting p.ok.took (rw (p.room) at q.ok));
  err = tt;
  room = q.room ∙ p.room;
  cause = HasCause-then p.cause (Ok v) q.cause;
  heard = IsHeard-then p.heard (Ok v) q.heard;
}
Wrote-all {view = view} {after = after} {s = s} {bytes = bytes} {r = Err e} p q = record {
  ok = tt;
  err = let front = TookFront-then [] p.ok (rw (p.room, ← append-nil s.waiting) at q.err) in rw append-nil at front;
  room = q.room ∙ p.room;
  cause = HasCause-then p.cause (Err e) q.cause;
  heard = IsHeard-then p.heard (Err e) q.heard;
}

-- a call on a new `Out` that failed: the sink took a front of the text
Wrote-front : {T E U F : Type 0} {view : SinkView} {s : Stage} {bytes : List ℕ} {q : Result U F} {r : Result T E} → IsErr q → IsErr r
    → Put (fresh view) s bytes q → Wrote view s.sink bytes r
Wrote-front {q = Ok u} {r = r} m n p = cc
Wrote-front {q = Err d} {r = Ok v} m n p = cc
Wrote-front {q = Err d} {r = Err e} m n p = record {
  ok = tt;
  err = p.err;
  room = p.room;
  cause = record { later = p.cause.later; failed = p.cause.failed };
  heard = record { same = p.heard.same; quiet = λ _. tt };
}

-- what a caller says of its sink after `Out::new`, the calls that put a text, and `finish`; `end` is the sink as the caller sees it then
pub Wrote-finish : {T E U F : Type 0} {view after end : SinkView} {start s : Stage} {bytes : List ℕ} {u : U} {r : Result T E} → start ≡ fresh view
    → Put {T = U} {E = F} start s bytes (Ok u) → Wrote s.sink after s.waiting r → end ≡ after → Wrote view end bytes r
Wrote-finish begun p q seen = rw seen (Wrote-all (rw begun at p) q)

-- the same where one of those calls failed, and the `Out` was let go
pub Wrote-stop : {T E U F : Type 0} {view end : SinkView} {start s : Stage} {bytes : List ℕ} {q : Result U F} {r : Result T E} → start ≡ fresh view
    → IsErr q → IsErr r → Put start s bytes q → end ≡ s.sink → Wrote view end bytes r
Wrote-stop begun m n p seen = rw seen (Wrote-front m n (rw begun at p))
