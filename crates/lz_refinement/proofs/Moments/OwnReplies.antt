-- A reply that a pass has among its own steps stays.
use Rattle.std.proofs.{Common.{◌≡◌, ◌≢◌, ⊎_elim, ℕ, List, [], ◌∷◌, ◌++◌, map, sym, ap, ◌∙◌, subst}, lemmas.Bool.{cases_eq}}
use Rattle.lz_refinement.proofs.{Vocabulary.{Device, Note, shape_of_sizes, steps_of, BoardId}, Marks.OwnCalls.{calls_own}}
use Rattle.lz_refinement.specs.{Moments.{IsReply, OwnRepliesStay, RepliesStay, Stays}, OwnCalls.{shown, told}}
use Rattle.lz_board.proofs.Upkeep.Splice.{other_step, own_step}

head_same : (x y : Note) (xs ys : List Note) → x ∷ xs ≡ y ∷ ys → x ≡ y
head_same x y xs ys is = cc

rest_same : (x y : Note) (xs ys : List Note) → x ∷ xs ≡ y ∷ ys → xs ≡ ys
rest_same x y xs ys is = cc

module _ (b : BoardId) (disk : Device) (all : List Note) (p : ℕ) (reply : Note) (older : List Note) (is_reply : IsReply reply.what) where
  -- where the reply stands among these notes, which end all of them
  record Stands : Type 0 where
    before : List Note
    steps : steps_of p (reply ∷ before) ≡ reply ∷ older
    stays : Stays b disk all reply before

  find : (ns newer : List Note) → RepliesStay b disk all ns → steps_of p ns ≡ newer ++ reply ∷ older → Stands
  find [] [] stay is = absurd cc
  find [] (y ∷ ys) stay is = absurd cc
  find (x ∷ xs) newer stay is = ⊎_elim
      (λ (own : x.by ≡ p). here (λ ys is. find xs ys stay.1 is) newer own (sym (own_step [] p x xs own) ∙ is))
      (λ (away : x.by ≢ p). find xs newer stay.1 (sym (other_step [] p x xs away) ∙ is))
      (cases_eq x.by p)
    where
      here : ((ys : List Note) → steps_of p xs ≡ ys ++ reply ∷ older → Stands) → (newer : List Note) → x.by ≡ p → x ∷ steps_of p xs ≡ newer ++ reply ∷ older → Stands
      here next [] own is =
          let same : x ≡ reply = head_same x reply (steps_of p xs) older is in
          record {
            before = xs;
            steps = subst (λ (n : Note). steps_of p (n ∷ xs) ≡ n ∷ older) same (own_step [] p x xs own ∙ ap (λ l. x ∷ l) (rest_same x reply (steps_of p xs) older is));
            stays = subst (λ (n : Note). IsReply n.what → Stays b disk all n xs) same stay.0 is_reply;
          }
      here next (y ∷ ys) own is = next ys (rest_same x y (steps_of p xs) (ys ++ reply ∷ older) is)

pub own_replies_stay : (D : Type 0) (device : D → Device) → OwnRepliesStay D device
own_replies_stay D device b disk ns p newer reply older stay is is_reply =
    let s = find b (device disk) ns p reply older is_reply ns newer stay is in
    let shape = shape_of_sizes b.sizes in
    record { before = s.before; steps = s.steps; calls = calls_own shape p (reply ∷ s.before) ∙ ap (λ l. map shown (told shape l)) s.steps; stays = s.stays }
