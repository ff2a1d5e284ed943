-- For a proof by hand of a function whose result may hold the source that it was lent. Assumes `Logic`.
--     lone, typed          a value of a type with laws is one machine value, of its type
--     sorted               a result is one of the two
--     live_typed           a machine value of a variant with one field is of its type
--     ok_of, err_of        what a `Result` owns, from what its field owns
--     rests_at_ok, rests_at_err      what `RestsIfErr` asks: that the result holds the lender; and the lender's last value
use Rattle.std.specs.Prelude.{ℕ, ◌<◌, ◌⊎◌, Result, Ok, Err, OnOk, OnErr}
use Rattle.std.specs.Borrow.{RestsIfErr, follows, GName, MutBor}
use Rattle.std.specs.contracts.result.Result as result
use Rattle.std.proofs.Common.{inl, inr}
use mathlib.Core.Bool.{Bool, true, false, ◌&&◌}
use mathlib.Core.Path.{◌≡◌, refl, sym, subst}
use mathlib.Core.List.{List, [], ◌∷◌}
use mathlib.Core.Option.{none, some}
use lib.Dec.{T}
use seplogic.Ra.Ura.{Ura}
use mir.Syntax.{Ty}
use mir.Val.{Val, of_list, has_ty, WT}
use base.Logic.{ent, emp, wand}
use base.Fml.{Fml, fex, feq, fsep, fauth, fres}
use types.Logic.{Logic, sem}
use types.Kit.{‵, ◌$◌, ◌∵◌, !, qed, move, each, assume, use0, rewrite, fjoin, fpack, feq_i, done}
use types.Match.{live}
use denote.RattleType.{RattleType, Valss, owns}
use denote.Laws.{Is, Typed}
use denote.Param.{layout}
use denote.Param.Laws.{Laws}
use denote.Follow.{such_by, follows_by}
use denote.Steps.{nothing}
use denote.Enum.Row.{tagged_with}
use denote.Enum.Enum.{form_of, in_a_row}
use denote.Enum.Declared.{shape}

abbrev pub IsTyped : Ty → Val → Type 0
IsTyped τ v = T (has_ty τ v) × WT v

one : (τ : Ty) (vs : List Val) → Typed (τ ∷ []) vs → (v : Val) × (vs ≡ v ∷ []) × IsTyped τ v
one τ [] t = absurd t
one τ (v ∷ []) t = (v, refl, t.0)
one τ (v ∷ w ∷ vs) t = absurd t.1

module _ (R : RattleType) (L : Laws R) {M : Type 1} {𝓤 : Ura M} (𝓛 : Logic 𝓤) where
  is_typed : (x : R.Denot) (vs : List Val) → Is R x vs → Typed (layout R ∷ []) vs
  is_typed x vs is = subst (λ (τs : List Ty). Typed τs vs) L.one ((L.lawful 𝓛).typed x vs is)

  pub lone : (x : R.Denot) (vs : List Val) → Is R x vs → (v : Val) × (vs ≡ v ∷ []) × IsTyped (layout R) v
  lone x vs is = one (layout R) vs (is_typed x vs is)

  pub typed : (x : R.Denot) (v : Val) → Is R x (v ∷ []) → IsTyped (layout R) v
  typed x v is = (is_typed x (v ∷ []) is).0

pub sorted : {A E : Type 0} (r : Result A E) → ((x : A) × (r ≡ Ok x)) ⊎ ((e : E) × (r ≡ Err e))
sorted (Ok x) = inl (x, refl)
sorted (Err e) = inr (e, refl)

and_tt : (b : Bool) → T b → T (b && true)
and_tt true t = tt
and_tt false t = absurd t

pub live_typed : (k : ℕ) → k < 256 → (τ : Ty) (v : Val) → IsTyped τ v → T (has_ty τ v && true) × WT (live k (of_list (v ∷ [])))
live_typed k small τ v is = (and_tt _ is.0, (record { fits = small }, (is.1, tt)))

module _ {M : Type 1} {𝓤 : Ura M} (𝓛 : Logic 𝓤) (R R' : RattleType) where
  pub ok_of : (x : R.Denot) (v : Val) → ent 𝓤 (sem 𝓛 (R.own_val x (v ∷ []))) (sem 𝓛 ((result.the_row R R').own_val (Ok x) (live 0 (of_list (v ∷ [])) ∷ [])))
  ok_of x v =
      qed 𝓛 (‵ (R.own_val x (v ∷ [])) ∷ []) ∵ nothing ! $ move ! (1 ∷ 0 ∷ []) $ fjoin ! $ feq_i ! (List Val) (v ∷ []) (v ∷ []) refl $ fjoin ! $
      fpack ! (Valss (R ∷ [])) (in_a_row (R ∷ []) (owns (R ∷ []) (x, tt)) (v ∷ [])) (v ∷ [], tt) $
      feq_i ! (List Val) (live 0 (of_list (v ∷ [])) ∷ []) (live 0 (of_list (v ∷ [])) ∷ []) refl $ fjoin ! $
      fpack ! (List Val) (tagged_with (form_of (shape (result.the_type R R'))) (form_of (shape (result.the_type R R'))).payload ((result.the_type R R').to (Ok x)) (live 0 (of_list (v ∷ [])) ∷ [])) (v ∷ []) $ done !

  pub err_of : (e : R'.Denot) (v : Val) → ent 𝓤 (sem 𝓛 (R'.own_val e (v ∷ []))) (sem 𝓛 ((result.the_row R R').own_val (Err e) (live 1 (of_list (v ∷ [])) ∷ [])))
  err_of e v =
      qed 𝓛 (‵ (R'.own_val e (v ∷ [])) ∷ []) ∵ nothing ! $ move ! (1 ∷ 0 ∷ []) $ fjoin ! $ feq_i ! (List Val) (v ∷ []) (v ∷ []) refl $ fjoin ! $
      fpack ! (Valss (R' ∷ [])) (in_a_row (R' ∷ []) (owns (R' ∷ []) (e, tt)) (v ∷ [])) (v ∷ [], tt) $
      feq_i ! (List Val) (live 1 (of_list (v ∷ [])) ∷ []) (live 1 (of_list (v ∷ [])) ∷ []) refl $ fjoin ! $
      fpack ! (List Val) (tagged_with (form_of (shape (result.the_type R R'))) (form_of (shape (result.the_type R R'))).payload ((result.the_type R R').to (Err e)) (live 1 (of_list (v ∷ [])) ∷ [])) (v ∷ []) $ done !

module _ {M : Type 1} {𝓤 : Ura M} (𝓛 : Logic 𝓤) (R : RattleType) where
  open 𝓛 use {A}

  -- a name follows itself
  follows_itself : (γ : GName) → ent 𝓤 (emp 𝓤) (sem 𝓛 (follows R R γ γ (λ w. w)))
  follows_itself γ =
      let From : R.Denot → R.Denot → Fml = λ z w. fsep (feq R.Denot z w) (fauth γ (R.coded.code w)) in
      let said = qed 𝓛 [] ∵ each ! (λ (w : R.Denot). wand 𝓤 (A.res γ (R.coded.code w)) (A.res γ (R.coded.code w))) (λ w. assume ! (‵ (fres γ (R.coded.code w))) $ done !) in
      let back = qed 𝓛 [] ∵ each ! (λ (z : R.Denot). wand 𝓤 (A.auth γ (R.coded.code z)) (sem 𝓛 (fex R.Denot (From z)))) (λ z. assume ! (‵ (fauth γ (R.coded.code z))) $
      feq_i ! R.Denot z z refl $ fjoin ! $ fpack ! R.Denot (From z) z $ done !) in
      record { apply = λ a p. (said.apply a p, back.apply a p) }

  module _ (X E : Type 0) (s : MutBor R.Denot) (name : X → GName) (P : R.Denot → Type 0) where
    -- what a function and a value, by which the lender follows the name, have to meet
    abbrev How : Result X E → Type 0
    How r = (h : (R.Denot → R.Denot) × R.Denot) × ((w : R.Denot) → OnOk r (h.0 w ≡ w)) × OnErr r (P h.1)

    pub rests_at_ok : (x : X) → name x ≡ s.ghost_name → ent 𝓤 (emp 𝓤) (sem 𝓛 (let r : Result X E = Ok x in RestsIfErr R s name r P))
    unfolding such_by follows_by
    rests_at_ok x same =
        qed 𝓛 [] ∵ use0 𝓛 (‵ (follows R R s.ghost_name s.ghost_name (λ w. w))) (follows_itself s.ghost_name) $
        rewrite ! 0 (λ (γ : GName). ‵ (follows R R s.ghost_name γ (λ w. w))) (sym same) refl $
        fpack ! (How (Ok x)) (λ h. follows_by R.Denot R.Denot R.coded.code R.coded.code s.ghost_name (some (name x)) h.0.0 h.0.1) ((λ w. w, s.now), (λ w. refl), tt) $ done !

    pub rests_at_err : (e : E) (last : R.Denot) → P last → ent 𝓤 (A.res s.ghost_name (R.coded.code last)) (sem 𝓛 (let r : Result X E = Err e in RestsIfErr R s name r P))
    unfolding such_by follows_by
    rests_at_err e last p =
        qed 𝓛 (‵ (fres s.ghost_name (R.coded.code last)) ∷ []) ∵
        fpack ! (How (Err e)) (λ h. follows_by R.Denot R.Denot R.coded.code R.coded.code s.ghost_name none h.0.0 h.0.1) ((λ w. w, last), (λ w. tt), p) $ done !
