-- An empty body. The borrow is opened, and closed at another count.
use Rattle.lz_growth.specs.contracts.tally.Tally as T
use Rattle.lz_growth.specs.contracts.tally.Tally.count_one as it
use Rattle.lz_growth.proofs.tally.Tally.count_one.Statement as stated
use Rattle.lz_growth.proofs.tally.Tally.count_one.Code as code
use Rattle.std.proofs.Common.{ℕ, ◌+◌, List, [], ◌∷◌, refl, MutBor}
use seplogic.Ra.Ura.{Ura}
use mir.{Syntax.{named}, Val.{Val, vunit, vptr}}
use base.{Logic.{SProp, ent, emp, via, fst∗, id⊢}, Fml.{GName, Lft, Share, ftrue, flft}}
use prog.{Memory.{Memory}, Routine.{Routine}, Wp.{Calls, Loops, WpFn, Tables}}
use types.{Logic.{Logic}, Kit.{‵, ◌⊛◌, ◌$◌, ◌∵◌, !, qed, move, keep, drop, use1, split, join, fsplit, fsplit3, fjoin3, feq_i, suffices, frame, done}}
use types.{Run.{unit_lit, of_opd, returns, enter}, ByLocal.{alloc_all, pass_all, free_all, look_at, sets}}
use contract.{Monad.{Fun}, Running.{tables, tables_of}}
use sound.WpLaws.{WpFn-mono}
use denote.{RattleType.{owns}, Ref.{MutRef, mut_vals, mut_Tells}, Signature.{plain}, Steps.{nothing, opens, closes}, Triple.Entry.{on_entry}}
use denote.Triple.{Spec.{Meets, triple_of}, Table.{entered}, Walked.{says, Stays, stay_ref, walk_of, Goes-ref, ends_at, walked, walk_Meets}}
use Rattle.lz_growth.specs.{declared.tally.Tally.{Tally}, contracts.tally.Tally.count_one.Key.{name as #it}}

abbrev stayed : Stays (it.ended).signature.params (it.ended).kept
stayed = (stay_ref (0 ∷ []) tt (plain (λ _. T.the_row)), tt)

module _ {M : Type 1} {𝓤 : Ura M} (𝓛 : Logic 𝓤) (at_mem : Memory → SProp 𝓤) (run : Routine → Fun 𝓤) (C : Calls 𝓤 𝓛.H) (Λ : Loops 𝓤 𝓛.H) (κ : Lft) (q : Share) (b o : ℕ) (γ : GName) (h : Tally) where
  abbrev x : MutBor Tally × Unit {0}
  x = (record { ref_ptr = (b, o); ghost_name = γ; now = h }, tt)

  abbrev h' : Tally
  h' = record { marker = h.marker; count = h.count + 1 }

  abbrev at : List Val × Unit {0}
  at = (vptr b o ∷ [], tt)

  walk : ent 𝓤 (on_entry 𝓛 it.signature (κ, tt) (q, tt) x at) (WpFn 𝓤 𝓛.H C Λ code.function (vptr b o ∷ []) ((walk_of 𝓛 it.ended stayed (it.clauses 𝓛 at_mem run)).post (((κ, tt), (q, tt), tt, x, at), tt)))
  walk =
      qed 𝓛 ((‵ (flft κ q) ⊛ ‵ ftrue) ∷ ‵ (owns (MutRef (named 0) κ T.the_row ∷ []) x at) ∷ []) ∵ split ! $ move ! (2 ∷ []) $ fsplit ! $ fsplit3 ! $ drop ! $ move ! (0 ∷ 1 ∷ 3 ∷ []) $
      enter ! C Λ code.function (vptr b o ∷ []) _ $
      alloc_all ! (λ l. pass_all ! refl ((tt, tt), tt) $
      move ! (0 ∷ 1 ∷ 2 ∷ []) $ opens ! tt T.the_row {h = h} b o (λ vs.
      sets ! (of_opd ! (unit_lit !)) refl (tt, tt) $
      move ! (1 ∷ []) $ use1 𝓛 (‵ ((T.the_row).own_val h' vs)) (id⊢ 𝓤 _) $ move ! (1 ∷ 0 ∷ []) $ closes ! tt T.the_row h' vs b o $
      returns ! (look_at ! 0 refl) $ free_all ! refl $ keep ! (0 ∷ 1 ∷ 2 ∷ []) $
      suffices ! _ (ends_at 𝓛 it.ended stayed (it.clauses 𝓛 at_mem run) (((κ, tt), (q, tt), tt, x, at), tt) vunit tt (h', tt) (tt, tt)) $ says ! refl $
      feq_i ! (List Val) (vptr b o ∷ []) (vptr b o ∷ []) refl $ fjoin3 ! $ nothing ! $ move ! (1 ∷ 0 ∷ []) $ join ! $ nothing ! $ move ! (2 ∷ 0 ∷ []) $ join ! $ frame ! $ frame ! $
      feq_i ! (List Val) (vunit ∷ []) (vunit ∷ []) refl $ done !))

meets : {M : Type 1} {𝓤 : Ura M} (𝓛 : Logic 𝓤) → (at_mem : Memory → SProp 𝓤) (run : Routine → Fun 𝓤) (𝓣 : Tables 𝓤 𝓛.H)
    → Meets 𝓛 it.signature (WpFn 𝓤 𝓛.H 𝓣.C 𝓣.Λ code.function) (it.spec 𝓛 at_mem run)
meets {𝓤 = 𝓤} 𝓛 at_mem run 𝓣 =
    walk_Meets 𝓛 it.ended stayed (Goes-ref 𝓛 1 0 tt (plain (λ _. T.the_row)), tt) (it.clauses 𝓛 at_mem run) (WpFn 𝓤 𝓛.H 𝓣.C 𝓣.Λ code.function) (WpFn-mono 𝓤 𝓛.H 𝓛.laws 𝓣 code.function)
    (walked 𝓛 it.ended stayed (it.clauses 𝓛 at_mem run) (WpFn 𝓤 𝓛.H 𝓣.C 𝓣.Λ code.function) (λ κs. (mut_vals, tt)) (λ κs. (mut_Tells (named 0) κs.0 T.the_row, tt))
    (λ κs qs bounds a _ are. via 𝓤 _ (fst∗ 𝓤 _ (emp 𝓤)) (walk 𝓛 at_mem run 𝓣.C 𝓣.Λ κs.0 qs.0 a.0.ref_ptr.0 a.0.ref_ptr.1 a.0.ghost_name a.0.now)))

pub count_one_spec : {M : Type 1} → stated.statement M
unfolding tables_of
count_one_spec 𝓤 𝓛 𝓜 𝓡 wired =
    entered 𝓤 𝓛.H (triple_of 𝓛 it.signature (it.spec 𝓛 𝓜.mem 𝓡.returns))
    (tables 𝓤 𝓛.H 𝓜 𝓡 𝓡.env).C (tables 𝓤 𝓛.H 𝓜 𝓡 𝓡.env).Λ #it code.function (code.unfolded 𝓤 𝓛.H 𝓜 𝓡 wired)
    (meets 𝓛 𝓜.mem 𝓡.returns (tables_of 𝓤 𝓛.H 𝓜 (tables 𝓤 𝓛.H 𝓜 𝓡 𝓡.env)))
