-- A part that goes from seat to seat keeps the rule.
use Rattle.std.proofs.Common.{◌≡◌, ◌≢◌, ⊎_elim, ℕ, suc, Bool, List, ◌∷◌, length, set, refl, sym, ap, ◌∙◌, subst, length-set, true≢false}
use mathlib.Core.Option.{some, some-ne-none}
use lib.ListN.{get_elem?}
use Rattle.atomic_table.{specs.Table.{Splits, Joins}, proofs.Lists.{set_else}}
use Rattle.lz_list.specs.{Traces.{Trace}, declared.layout.Sizes.{Sizes}}
use Rattle.lz_board.specs.{declared.view.{Note.{Note}, Part.{Part}, View.{View}}, Kept.{PartFits, ViewFits, Keeps}}
use Rattle.lz_board.{specs.Plays.{alone, nobody, together, kept_back, handed}, proofs.Upkeep.SeatTable.{replaced, one_part, at_end, moved, moved_same}}
use Rattle.lz_board.proofs.Upkeep.SeatTable.{moved_other, part_of_both, apart_both, given, given_moved, given_kept}

module _ (z : Sizes) (opened : Trace) where
  owned_by : (ns : List Note) (owner owner' : ℕ → ℕ) (words : List ℕ) (i i' : ℕ) (h : Part) → owner' h.number ≡ i' → PartFits z opened ns owner words i h → PartFits z opened ns owner' words i' h
  owned_by ns owner owner' words i i' h e f = record { owned = e; pinned = f.pinned; knows = f.knows }

  -- a part is handed out
  pub cuts_at : (id : ℕ) (b : Bool) (y : Sizes) (P : Trace) (l : List Note) (h : Part) (held : List Part)
      → Splits (Keeps z opened) id record { pen = b; sizes = y; opened = P; notes = l; held = h ∷ held } record { pen = b; sizes = y; opened = P; notes = l; held = held } (alone h)
  cuts_at id b y P l h held s k at =
      let now : View = record { pen = b; sizes = y; opened = P; notes = l; held = h ∷ held } in
      let left : View = record { pen = b; sizes = y; opened = P; notes = l; held = held } in
      let right : View = alone h in
      let mine = k.views id now at in
      let top = mine.parts h (0, refl) in
      let here : ℕ = length s.views in
      let owner' = moved h.number here k.owner in
      let F : ℕ → View → Type 0 = ViewFits z opened k.notes k.pen owner' s.words in
      let fits_left : F id left = record {
        whole = mine.whole;
        parts = λ g is. let f = mine.parts g (suc is.0, is.1) in owned_by k.notes k.owner owner' s.words id id g (moved_other h.number here k.owner g.number (mine.apart.0 g is) ∙ f.owned) f;
        apart = mine.apart.1;
      } in
      let fits_right : F here right = record {
        whole = λ is. absurd (true≢false (sym is));
        parts = λ g is. subst (PartFits z opened k.notes owner' s.words here) (one_part h g is) (owned_by k.notes k.owner owner' s.words id here h (moved_same h.number here k.owner) top);
        apart = ((λ g is. absurd (some-ne-none g (sym is.1))), tt);
      } in
      let others : (j : ℕ) (u : View) → j ≢ id → get_elem? s.views j ≡ some u → F j u = λ j u ne e. let f = k.views j u e in record {
        whole = f.whole;
        parts = λ g is. let q = f.parts g is in owned_by k.notes k.owner owner' s.words j j g (moved_other h.number here k.owner g.number (λ same. ne (sym q.owned ∙ ap k.owner same ∙ top.owned)) ∙ q.owned) q;
        apart = f.apart;
      } in
      record {
        notes = k.notes;
        pen = k.pen;
        owner = owner';
        lawful = k.lawful;
        long = k.long;
        words = k.words;
        pins = k.pins;
        views = λ j u e. ⊎_elim (λ was. replaced F s.views id left fits_left others j u was.1)
            (λ is. subst (λ (x : ℕ × View). F x.0 x.1) (λ i. (sym (is.0 ∙ length-set s.views id left) i, is.1 i)) fits_right)
            (at_end (set s.views id left) right u j e);
      }

  pub cuts_as : (id : ℕ) (b : Bool) (y : Sizes) (P : Trace) (l : List Note) (h : Part) (held : List Part) (v : View) → v ≡ record { pen = b; sizes = y; opened = P; notes = l; held = h ∷ held } → Splits (Keeps z opened) id v (kept_back v) (handed v)
  cuts_as id b y P l h held v is = subst (λ (v : View). Splits (Keeps z opened) id v (kept_back v) (handed v)) (sym is) (cuts_at id b y P l h held)

  -- the parts of another seat are taken in
  pub joins_at : (id other : ℕ) (v u : View) → Joins (Keeps z opened) id v other u (together v u) nobody
  joins_at id other v u s k at apart there' =
      let there : get_elem? s.views other ≡ some u = sym (set_else s.views id other (together v u) apart) ∙ there' in
      let mine = k.views id v at in
      let theirs = k.views other u there in
      let both = together v u in
      let owner' = given other id k.owner in
      let F : ℕ → View → Type 0 = ViewFits z opened k.notes k.pen owner' s.words in
      let fits_both : F id both = record {
        whole = mine.whole;
        parts = λ g is. ⊎_elim
            (λ l. let f = theirs.parts g l in owned_by k.notes k.owner owner' s.words other id g (given_moved other id k.owner g.number f.owned) f)
            (λ r. let f = mine.parts g r in owned_by k.notes k.owner owner' s.words id id g (given_kept other id k.owner g.number (λ e. apart (sym e ∙ f.owned)) ∙ f.owned) f)
            (part_of_both u.held v.held g is);
        apart = apart_both u.held v.held theirs.apart mine.apart (λ h g l r e. apart (sym (theirs.parts h l).owned ∙ ap k.owner (sym e) ∙ (mine.parts g r).owned));
      } in
      let fits_spent : F other nobody = record { whole = λ is. absurd (true≢false (sym is)); parts = λ g is. absurd (some-ne-none g (sym is.1)); apart = tt } in
      let others : (j : ℕ) (w : View) → j ≢ other → j ≢ id → get_elem? s.views j ≡ some w → F j w = λ j w ne _ e. let f = k.views j w e in record {
        whole = f.whole;
        parts = λ g is. let q = f.parts g is in owned_by k.notes k.owner owner' s.words j j g (given_kept other id k.owner g.number (λ same. ne (sym q.owned ∙ same)) ∙ q.owned) q;
        apart = f.apart;
      } in
      record {
        notes = k.notes;
        pen = k.pen;
        owner = owner';
        lawful = k.lawful;
        long = k.long;
        words = k.words;
        pins = k.pins;
        views = replaced F (set s.views id both) other nobody fits_spent
            (λ j w ne e. replaced (λ j w. j ≢ other → F j w) s.views id both (λ _. fits_both) (λ j w ne' e' away. others j w away ne' e') j w e ne);
      }
