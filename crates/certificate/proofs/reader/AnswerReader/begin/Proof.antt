-- `begin` lends the source for the call that reads the head, and has it back at what the call left. Then it hands it to the reader;
-- or, at an error, gives it up there, so that this is its last value. Assumes `Logic`.
--     S, L, ghosts, dict, met      the source's type, its laws, and its bound's members, code and contracts
--     z                            what the contract binds: lifetimes, tokens, arguments, machine values
--     κ, q and μ, r                the lifetime of the source's borrow and that of its type, with the shares of their tokens
--     s, x                         the source, and its value at entry
-- A comment in brackets lists what is owned there, before the locals.
use Rattle.std.proofs.Common.{◌≡◌, ℕ, List, [], ◌∷◌, ◌++◌, refl, sym, ap, subst, ◌∙◌, lit<, inl, inr}
use Rattle.std.specs.Prelude.{IfSome, Ok, Err}
use Rattle.std.specs.Borrow.{RestsIfErr}
use mir.Syntax.{a_type, named, dcons, dnil}
use mir.Val.{Val, vptr, of_list}
use mir.MapTy.{inst_fn}
use base.Fraction.{full_share, left, right}
use base.FractionLaws.{common}
use base.Logic.{SProp, ent, sep, wand, emp, id⊢, apply∗}
use base.Fml.{Lft, Share, Fml, ftrue, flft, fdead}
use prog.Wp.{WpFn, Wp, after_seq, at_return}
use types.Logic.{sem}
use types.Kit.{‵, raw, ◌⊛◌, some, later, at_ret, any_q, ◌$◌, ◌∵◌, !, qed, by, move, keep, drop, split, join, fsplit, fsplit3, fjoin, fpick, feq_l, pick, suffices, use0, use1, use2, use3, await, rewrite}
use types.Run.{stop, fld, addr, lit, of_opd, no_more, and_then, first, switches_on, exec, returns, enter}
use types.ByLocal.{alloc_all, pass_all, free_all, look_at, get, get_in, get_tag, through, sets, sets_last, lands_as, env}
use types.Part.{agg, whole}
use types.Match.{live, vrt, in_variant}
use types.Tokens.{lft_new, lft_end, lft-common, name_done}
use contract.Monad.{fact, fact_i}
use contract.BorrowLft.{◌⊑◌, ⊑_refl, ⊑_trans, meet_⊑_left, meet_⊑_right}
use contract.Running.{tables}
use denote.Exit.{yes, no}
use denote.RattleType.{RattleType, owns}
use denote.Laws.{Is, shows}
use denote.Signature.{types_at, plain, named_lft}
use denote.Builtin.{RefMutOf}
use denote.Ref.{MutRef, mut_Tells}
use denote.Lend.{lends_again, comes_back, LentAgain}
use denote.Steps.{nothing, heard, peeks, only}
use denote.Param.{param, layout, bounded}
use denote.Param.Laws.{param_laws}
use denote.Struct.Tuple.{Tuple, tuple_laws}
use denote.Triple.Call.{calls_at}
use denote.Triple.Clauses.{Lasts, lasts}
use denote.Triple.Spec.{triple_of}
use denote.Triple.Table.{framed}
use denote.Triple.Walked.{Stays, stay_dropped, walk_of, Goes-dropped, Goes-spent_ref}
use Rattle.std.proofs.raw_atomic.Walks.{proved_at, leaves}
use Rattle.std.proofs.VecSteps.Shapes.{after, head, arm_body}
use Rattle.std.specs.contracts.alloc.Global as global
use Rattle.std.proofs.alloc.Global.TheLaws as global_laws
use Rattle.std.specs.contracts.result.Result as result
use Rattle.certificate.specs.HeadReading.{coming_of, head_reading}
use Rattle.certificate.specs.ReaderView.{coming, source_of, stream_of, BeginsAs}
use Rattle.certificate.specs.Beginnings.{coming_then, start_of, ReadsHead, BeginRead, HeadRead, LeavesAs}
use Rattle.certificate.specs.contracts.reader.beginning.Beginning as beginning
use Rattle.certificate.proofs.reader.beginning.Beginning.TheLaws as beginning_laws
use Rattle.certificate.specs.contracts.reader.AnswerError as error
use Rattle.certificate.proofs.reader.AnswerError.TheLaws as error_laws
use Rattle.certificate.specs.contracts.reader.AnswerReader as reader
use Rattle.certificate.proofs.reader.AnswerReader.TheLaws as reader_laws
use Rattle.answer_model.specs.contracts.head.Head as answer_head
use Rattle.answer_model.proofs.head.Head.TheLaws as head_laws
use Rattle.certificate.proofs.Lending.{lone, typed, sorted, live_typed, ok_of, err_of, rests_at_ok, rests_at_err}
use Rattle.certificate.proofs.BeginLemmas.{begins_after, fails_after, read_after}
use Rattle.certificate.specs.contracts.reader.beginning.read_beginning as g
use Rattle.certificate.proofs.reader.beginning.read_beginning.Met as g-thm
use Rattle.certificate.specs.contracts.reader.AnswerReader.after as k
use Rattle.certificate.proofs.reader.AnswerReader.after.Met as k-thm
use Rattle.certificate.specs.contracts.reader.AnswerReader.begin as f
use Rattle.certificate.specs.contracts.reader.AnswerReader.begin.Key.{name as #self}
use Rattle.certificate.proofs.reader.AnswerReader.begin.Statement.{statement}
use Rattle.certificate.proofs.reader.AnswerReader.begin.Code as code

pub begin_spec : {M : Type 1} → statement M
begin_spec 𝓤 𝓛 𝓜 𝓡 wired S L ghosts dict met =
    let H = 𝓛.H in let 𝓣 = tables 𝓤 H 𝓜 𝓡 𝓡.env in let R : RattleType = param 0 S in let En = f.ended S ghosts dict in let c = f.clauses S ghosts dict 𝓛 𝓜.mem 𝓡.returns in
    let inst = bounded (a_type ∷ []) (S, tt) (dcons dict dnil) in let fn = inst_fn inst code.function in let Z : RattleType = global.the_row in
    let Bg : RattleType = beginning.the_row in let LBg = beginning_laws.the_row_laws in let Er : RattleType = error.the_row in let LEr = error_laws.the_row_laws in let In : RattleType = result.the_row Bg Er in
    let hs : Stays En.signature.params En.kept = (stay_dropped (plain (λ _. Z)) yes, (stay_dropped (RefMutOf (0 ∷ []) tt (plain (λ _. R)) (λ _. tt)) no, tt)) in
    proved_at 𝓛 En hs c 𝓜 𝓡 (Goes-dropped 𝓛 2 (plain (λ _. Z)) yes (λ κs x f. refl), (Goes-spent_ref 𝓛 2 (0 ∷ []) tt (plain (λ _. R)), tt)) (#self inst) fn (code.unfolded 𝓤 H 𝓜 𝓡 wired (S, tt) dict) (λ z are.
    let κs = z.0.0 in let qs = z.0.1 in let Post : Val → SProp 𝓤 = (walk_of 𝓛 En hs c).post z in let Run : List Val → SProp 𝓤 = λ ws. WpFn 𝓤 H 𝓣.C 𝓣.Λ fn ws Post in
    let κ : Lft = κs.0 in let q : Share = qs.0 in let μ : Lft = κs.1.0 in let r : Share = qs.1.0 in
    let a = z.0.3.0 in let s = z.0.3.1.0 in let b : ℕ = s.ref_ptr.0 in let o : ℕ = s.ref_ptr.1 in let γ : ℕ = s.ghost_name in let x = s.now in
    let Rd : RattleType = reader.the_row (named_lft 2 0 tt κs) R in let Two : List RattleType = Rd ∷ answer_head.the_row ∷ [] in let Tup : RattleType = Tuple Two in
    let LTup = tuple_laws Two (reader_laws.the_row_laws (named_lft 2 0 tt κs) R (param_laws 0 S L), (head_laws.the_row_laws, tt)) in
    let Out : RattleType = result.the_row Tup Er in let begun : Tup.Denot → Out.Denot = λ made. Ok made in let failed : Er.Denot → Out.Denot = λ e. Err e in
    let name : Tup.Denot → ℕ = λ made. source_of made.0 in let bytes = ghosts.left x in
    let Reads : S.Denot → In.Denot → Type 0 = λ y u. IfSome bytes (λ bs. ReadsHead (head_reading (coming_of bs)) (ghosts.left y) u) in
    let Begins : Out.Denot → Type 0 = λ u. IfSome bytes (λ bs. BeginsAs ghosts.left (head_reading (coming_of bs)) u) in
    let start = start_of bytes (ghosts.faults x) ghosts.is_strict in let ReadTo : S.Denot → In.Denot → Type 0 = λ y u. BeginRead start (ghosts.left y) (ghosts.faults y) u in
    let Leaves : Out.Denot → S.Denot → Type 0 = λ u y. LeavesAs start (ghosts.left y) (ghosts.faults y) u in
    let handle = lone Z global_laws.the_row_laws 𝓛 a z.0.4.0 are.0 in let h : Val = handle.0 in let told = mut_Tells (named 0) κ R s z.0.4.1.0 are.1.0 in
    let Ref : Lft → ℕ → S.Denot → Fml = λ η δ y. (MutRef (named 0) η R).own_val (record { ref_ptr = (b, o); ghost_name = δ; now = y }) (vptr b o ∷ []) in
    qed 𝓛 (((‵ (flft κ q) ⊛ ‵ (flft μ r) ⊛ ‵ ftrue) ⊛ ‵ (owns (types_at En.signature.params κs) z.0.3 z.0.4)) ∷ raw ((c κs z.0.3).requires z.1) ∷ []) ∵
    move ! (1 ∷ []) $ use1 𝓛 (raw (fact 𝓤 (μ ⊑ S.lives)) ⊛ raw (emp 𝓤)) (id⊢ 𝓤 _) $ split ! $ heard ! (μ ⊑ S.lives) (λ within. drop ! $
    split ! $ split ! $ move ! (1 ∷ []) $ split ! $ move ! (3 ∷ []) $ fsplit ! $ move ! (1 ∷ []) $ fsplit ! $ keep ! (2 ∷ 0 ∷ 5 ∷ 3 ∷ []) $
    -- [the handle; the source; the token of its lifetime; the token of the type's]
    rewrite ! 0 (λ (vs : List Val). ‵ (Z.own_val a vs)) handle.1 refl $ rewrite ! 1 (λ (vs : List Val). ‵ ((MutRef (named 0) κ R).own_val s vs)) told refl $
    suffices ! (Run (h ∷ vptr b o ∷ [])) (subst (λ (vs : List Val). ent 𝓤 (Run (h ∷ vptr b o ∷ [])) (Run vs)) (sym (λ i. handle.1 i ++ (told i ++ []))) (id⊢ 𝓤 (Run (h ∷ vptr b o ∷ [])))) $
    enter ! 𝓣.C 𝓣.Λ fn (h ∷ vptr b o ∷ []) Post $ alloc_all ! (λ l. pass_all ! refl (handle.2, ((tt, tt), tt)) $ let Ev = env fn.locals l in
    let Then = any_q (after_seq 𝓤 H (Wp 𝓤 H 𝓣.C 𝓣.Λ Ev (after 3 fn.body) (at_return 𝓤 H Ev Post)) (at_return 𝓤 H Ev Post)) in
    sets ! (addr ! (through ! refl (stop !))) refl (tt, tt) $
    -- the source is lent for a lifetime within that of its type
    lft_new ! tt (λ α. let ν : Lft = α ∷ μ in let t : Share = (common full_share r).0 in
    move ! (0 ∷ 4 ∷ []) $ use2 𝓛 (‵ (flft ν t) ⊛ raw (wand 𝓤 (𝓛.A.lft ν t) (sep 𝓤 (𝓛.A.lft (α ∷ []) full_share) (𝓛.A.lft μ r)))) (lft-common 𝓛 (α ∷ []) μ full_share r) $ split ! $
    use1 𝓛 (‵ (flft ν (left t)) ⊛ ‵ (flft ν (right t))) (𝓛.lfts.lft_split ν t) $ split ! $ move ! (4 ∷ 5 ∷ []) $
    use2 𝓛 (later (some (λ (δ : ℕ). ‵ (Ref ν δ x) ⊛ ‵ (LentAgain R κ ν q γ b o δ x)))) (lends_again 𝓛 R (named 0) κ ν q γ b o (named 0) x) $ await ! tt $ pick ! (λ δ. split ! $
    -- [the loan; what the lender keeps; the new lifetime's token, in halves; the way back to the two tokens; the handle]
    let G = triple_of 𝓛 (g.signature S) (g.spec S ghosts dict 𝓛 𝓜.mem 𝓡.returns) in
    let y : G.Ghost = (((ν, (ν, tt)), (left t, (right t, tt)), (⊑_refl ν, tt), (a, (record { ref_ptr = (b, o); ghost_name = δ; now = x }, tt)), (h ∷ [], (vptr b o ∷ [], tt))), tt) in
    nothing ! $ move ! (1 ∷ 0 ∷ []) $ fjoin ! $ move ! (5 ∷ 0 ∷ []) $ fjoin ! $ nothing ! $ move ! (4 ∷ 0 ∷ []) $ join ! $ move ! (3 ∷ 0 ∷ []) $ join ! $ join ! $
    use0 𝓛 (raw (fact 𝓤 (ν ⊑ S.lives))) (fact_i 𝓤 (ν ⊑ S.lives) (emp 𝓤) (⊑_trans ν μ S.lives (meet_⊑_right (α ∷ []) μ) within)) $
    use0 𝓛 (raw (emp 𝓤)) (id⊢ 𝓤 (emp 𝓤)) $ move ! (1 ∷ 0 ∷ []) $ join ! $ move ! (1 ∷ 0 ∷ []) $ join ! $ use1 𝓛 (raw (G.pre y)) (id⊢ 𝓤 _) $
    calls_at ! (framed 𝓤 H 𝓜 𝓣) G (g-thm.met 𝓤 𝓛 𝓜 𝓡 (code.calls-certificate::reader::beginning::read_beginning 𝓡.env wired) S L ghosts dict met) y (and_then ! (get ! refl) (and_then ! (get ! refl) (no_more !))) (λ v.
    use1 𝓛 (later (some (λ (u : In.Denot). ((‵ (flft ν (left t)) ⊛ ‵ (flft ν (right t)) ⊛ ‵ ftrue) ⊛ ‵ (In.own_val u (v ∷ []))) ⊛
    some (λ (ws : Lasts (g.ended S ghosts dict) y.0.0 y.0.3). ‵ (lasts (g.ended S ghosts dict) y.0.0 y.0.3 ws) ⊛ raw (fact 𝓤 (Reads ws.1.0 u)) ⊛ raw (fact 𝓤 (ReadTo ws.1.0 u)))))) (id⊢ 𝓤 _) $
    await ! tt $ pick ! (λ read. split ! $ split ! $
    -- [the new lifetime's token; what was read; the source's last value; what the lender keeps; the way back]. The lifetime ends, and the source comes back
    split ! $ move ! (1 ∷ []) $ split ! $ move ! (2 ∷ 0 ∷ []) $ use2 𝓛 (‵ (flft ν t)) (𝓛.lfts.lft_join ν t) $ move ! (0 ∷ 5 ∷ []) $
    use2 𝓛 (‵ (flft (α ∷ []) full_share) ⊛ ‵ (flft μ r)) (apply∗ 𝓤 (𝓛.A.lft ν t) (sep 𝓤 (𝓛.A.lft (α ∷ []) full_share) (𝓛.A.lft μ r))) $ split ! $ lft_end ! tt $
    use1 𝓛 (‵ (fdead ν)) (𝓛.lfts.dead-incl ν (α ∷ []) (meet_⊑_left (α ∷ []) μ)) $ move ! (4 ∷ []) $ pick ! (λ ws. split ! $ move ! (1 ∷ []) $ split ! $ let last : S.Denot = ws.1.0 in
    heard ! (Reads last read) (λ reads. heard ! (ReadTo last read) (λ read_to. fsplit ! $ move ! (1 ∷ []) $ fsplit ! $ fsplit ! $ move ! (4 ∷ 8 ∷ 0 ∷ []) $
    use3 𝓛 (later (‵ (Ref κ γ last) ⊛ ‵ (flft κ q))) (comes_back 𝓛 R (named 0) κ ν q γ b o δ x last) $ await ! tt $ split ! $
    move ! (2 ∷ 3 ∷ 4 ∷ 6 ∷ []) $ drop ! $ drop ! $ drop ! $ drop ! $ move ! (3 ∷ []) $
    -- [what was read; the source; the token of its lifetime; the token of the type's]
    elim (sorted read) [
      | inl found ↦ (
          let p : Bg.Denot = found.0 in
          rewrite ! 0 (λ (u : In.Denot). ‵ (In.own_val u (v ∷ []))) found.1 refl $ fpick ! (λ us. fsplit ! $ feq_l ! (λ ev. fpick ! (λ vss. fsplit ! $ feq_l ! (λ eu. fsplit ! $
          peeks ! Bg (Is Bg) (shows 𝓛 Bg) p vss.0 (λ is. let got = lone Bg LBg 𝓛 p vss.0 is in let u : Val = got.0 in
          rewrite ! 0 (λ (vs : List Val). ‵ (Bg.own_val p vs)) got.1 refl $ move ! (1 ∷ []) $ drop ! $
          lands_as ! (ap only ev ∙ ap (λ (vs : List Val). live 0 (of_list vs)) (eu ∙ ap (λ (vs : List Val). vs ++ []) got.1)) refl (live_typed 0 (lit< tt) (layout Bg) u got.2) $
          first ! $ switches_on ! (get_tag ! (vrt ! refl (fld ! refl (stop !))) (whole !)) $ exec ! 𝓣.C 𝓣.Λ Ev (arm_body 0 (head (after 2 fn.body))) Then $
          sets ! (of_opd ! (get_in ! (vrt ! refl (fld ! refl (stop !))) (in_variant ! 0 0 refl refl (whole !)))) refl got.2 $
          sets ! (addr ! (through ! refl (stop !))) refl (tt, tt) $ sets ! (of_opd ! (get ! refl)) refl got.2 $
          let G' = triple_of 𝓛 (k.signature S) (k.spec S ghosts dict 𝓛 𝓜.mem 𝓡.returns) in
          let y' : G'.Ghost = ((κs, qs, z.0.2, (record { ref_ptr = (b, o); ghost_name = γ; now = last }, (p, tt)), (vptr b o ∷ [], (u ∷ [], tt))), tt) in
          nothing ! $ move ! (1 ∷ 0 ∷ []) $ fjoin ! $ move ! (1 ∷ 0 ∷ []) $ fjoin ! $ nothing ! $ move ! (3 ∷ 0 ∷ []) $ join ! $ move ! (2 ∷ 0 ∷ []) $ join ! $ join ! $
          use0 𝓛 (raw (fact 𝓤 (μ ⊑ S.lives))) (fact_i 𝓤 (μ ⊑ S.lives) (emp 𝓤) within) $ use0 𝓛 (raw (emp 𝓤)) (id⊢ 𝓤 (emp 𝓤)) $ move ! (1 ∷ 0 ∷ []) $ join ! $ move ! (1 ∷ 0 ∷ []) $ join ! $
          use1 𝓛 (raw (G'.pre y')) (id⊢ 𝓤 _) $
          calls_at ! (framed 𝓤 H 𝓜 𝓣) G' (k-thm.met 𝓤 𝓛 𝓜 𝓡 (code.calls-certificate::reader::AnswerReader::after 𝓡.env wired) S L ghosts dict met) y' (and_then ! (get ! refl) (and_then ! (get ! refl) (no_more !))) (λ w.
          use1 𝓛 (later (some (λ (made : Tup.Denot). ((‵ (flft κ q) ⊛ ‵ (flft μ r) ⊛ ‵ ftrue) ⊛ ‵ (Tup.own_val made (w ∷ []))) ⊛
          some (λ (ws : Lasts (k.ended S ghosts dict) y'.0.0 y'.0.3). ‵ (lasts (k.ended S ghosts dict) y'.0.0 y'.0.3 ws) ⊛ raw (fact 𝓤 (name made ≡ γ)) ⊛ raw (fact 𝓤 (coming ghosts.left made.0 ≡ coming_then (ghosts.left last) p)) ⊛
          raw (fact 𝓤 (stream_of ghosts.left ghosts.faults ghosts.is_strict made.0 ≡ record { lines = p.lines; left = ghosts.left last; faults = ghosts.faults last; is_strict = ghosts.is_strict })) ⊛ raw (fact 𝓤 (made.1 ≡ p.head)))))) (id⊢ 𝓤 _) $
          await ! tt $ pick ! (λ made. split ! $ split ! $ move ! (2 ∷ []) $ pick ! (λ ws'. split ! $ drop ! $ split ! $
          heard ! (name made ≡ γ) (λ same. split ! $ heard ! (coming ghosts.left made.0 ≡ coming_then (ghosts.left last) p) (λ comes. split ! $ heard ! (stream_of ghosts.left ghosts.faults ghosts.is_strict made.0 ≡ record { lines = p.lines; left = ghosts.left last; faults = ghosts.faults last; is_strict = ghosts.is_strict }) (λ streams. heard ! (made.1 ≡ p.head) (λ its_head. move ! (1 ∷ []) $
          -- [the reader and the head; the two tokens]
          peeks ! Tup (Is Tup) (shows 𝓛 Tup) made (w ∷ []) (λ is'. let whole_typed = live_typed 0 (lit< tt) (layout Tup) w (typed Tup LTup 𝓛 made w is') in
          lands_as ! refl refl (typed Tup LTup 𝓛 made w is') $ sets_last ! (agg ! (and_then ! (lit ! tt) (and_then ! (get ! refl) (no_more !)))) refl whole_typed $
          exec ! 𝓣.C 𝓣.Λ Ev (after 3 fn.body) (at_ret Ev Post) $ sets ! (of_opd ! (get ! refl)) refl whole_typed $ use1 𝓛 (‵ (Out.own_val (begun made) (live 0 (of_list (w ∷ [])) ∷ []))) (ok_of 𝓛 Tup Er made w) $
          use0 𝓛 (raw (fact 𝓤 (Begins (begun made)))) (fact_i 𝓤 _ (emp 𝓤) (begins_after ghosts.left (λ bs. head_reading (coming_of bs)) last p made bytes comes its_head (subst (λ (u : In.Denot). Reads last u) found.1 reads))) $
          use0 𝓛 (raw (fact 𝓤 (HeadRead ghosts.left ghosts.faults start made))) (fact_i 𝓤 _ (emp 𝓤) (read_after ghosts.left ghosts.faults start last p made streams its_head (subst (λ (u : In.Denot). ReadTo last u) found.1 read_to))) $ join ! $
          use0 𝓛 (raw (fact 𝓤 (name made ≡ γ))) (fact_i 𝓤 _ (emp 𝓤) same) $ join ! $
          use0 𝓛 (raw (sem 𝓛 (RestsIfErr R s name (begun made) (λ y. Leaves (begun made) y)))) (rests_at_ok 𝓛 R Tup.Denot Er.Denot s name (λ y. Leaves (begun made) y) made same) $ join ! $
          returns ! (look_at ! 0 refl) $ free_all ! refl $ nothing ! $ nothing ! $ fjoin ! $ nothing ! $ fjoin ! $ keep ! (3 ∷ 0 ∷ 2 ∷ 1 ∷ []) $ by ! (leaves 𝓛 En hs c z (live 0 (of_list (w ∷ []))) (begun made) (tt, (tt, tt)) (tt, (tt, tt)))))))))))))))))
      | inr refused ↦ (
          let e : Er.Denot = refused.0 in
          rewrite ! 0 (λ (u : In.Denot). ‵ (In.own_val u (v ∷ []))) refused.1 refl $ fpick ! (λ us. fsplit ! $ feq_l ! (λ ev. fpick ! (λ vss. fsplit ! $ feq_l ! (λ eu. fsplit ! $
          peeks ! Er (Is Er) (shows 𝓛 Er) e vss.0 (λ is. let got = lone Er LEr 𝓛 e vss.0 is in let u : Val = got.0 in let whole_typed = live_typed 1 (lit< tt) (layout Er) u got.2 in
          rewrite ! 0 (λ (vs : List Val). ‵ (Er.own_val e vs)) got.1 refl $ move ! (1 ∷ []) $ drop ! $
          lands_as ! (ap only ev ∙ ap (λ (vs : List Val). live 1 (of_list vs)) (eu ∙ ap (λ (vs : List Val). vs ++ []) got.1)) refl whole_typed $
          first ! $ switches_on ! (get_tag ! (vrt ! refl (fld ! refl (stop !))) (whole !)) $ exec ! 𝓣.C 𝓣.Λ Ev (arm_body 1 (head (after 2 fn.body))) Then $
          sets ! (of_opd ! (get_in ! (vrt ! refl (fld ! refl (stop !))) (in_variant ! 1 0 refl refl (whole !)))) refl got.2 $
          sets_last ! (agg ! (and_then ! (lit ! tt) (and_then ! (get ! refl) (no_more !)))) refl whole_typed $
          exec ! 𝓣.C 𝓣.Λ Ev (after 3 fn.body) (at_ret Ev Post) $ sets ! (of_opd ! (get ! refl)) refl whole_typed $
          -- the source is given up, at its last value
          move ! (1 ∷ []) $ fsplit3 ! $ drop ! $ name_done ! tt $
          use1 𝓛 (raw (sem 𝓛 (RestsIfErr R s name (failed e) (λ y. Leaves (failed e) y))))
          (rests_at_err 𝓛 R Tup.Denot Er.Denot s name (λ y. Leaves (failed e) y) e last (subst (λ (u : In.Denot). ReadTo last u) refused.1 read_to)) $
          move ! (1 ∷ []) $ drop ! $
          use0 𝓛 (raw (fact 𝓤 (Begins (failed e)))) (fact_i 𝓤 _ (emp 𝓤) (fails_after ghosts.left (λ bs. head_reading (coming_of bs)) last e bytes (subst (λ (u : In.Denot). Reads last u) refused.1 reads))) $
          use0 𝓛 (raw (fact 𝓤 (Unit {0}))) (fact_i 𝓤 (Unit {0}) (emp 𝓤) tt) $ join ! $ use0 𝓛 (raw (fact 𝓤 (Unit {0}))) (fact_i 𝓤 (Unit {0}) (emp 𝓤) tt) $ join ! $ move ! (1 ∷ 0 ∷ []) $ join ! $ move ! (1 ∷ []) $
          use1 𝓛 (‵ (Out.own_val (failed e) (live 1 (of_list (u ∷ [])) ∷ []))) (err_of 𝓛 Tup Er e u) $ nothing ! $ move ! (4 ∷ 0 ∷ []) $ join ! $ move ! (3 ∷ 0 ∷ []) $ join ! $
          returns ! (look_at ! 0 refl) $ free_all ! refl $ nothing ! $ nothing ! $ fjoin ! $ nothing ! $ fjoin ! $ keep ! (1 ∷ 0 ∷ 2 ∷ 3 ∷ []) $ by ! (leaves 𝓛 En hs c z (live 1 (of_list (u ∷ []))) (failed e) (tt, (tt, tt)) (tt, (tt, tt)))))))))
    ]))))))))))
