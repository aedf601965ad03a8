-- Media of which the first bytes are durable.
use Rattle.std.proofs.Common.{◌≡◌, ◌⊎◌, ⊎_elim, inl, inr, ℕ, ◌+◌, ◌*◌, ◌-◌, ◌≤◌, ◌<◌, List, length, get_or, refl, sym, ◌∙◌, ap, subst, arith}
use Rattle.std.proofs.lemmas.{Bool.{cases_lt}}
use Rattle.lz_disk.proofs.Overwrites as over
use Rattle.lz_disk.{specs.Images.{Medium, IsConsistent, IsImage, is_loose, overwritten, synced}, proofs.Writes.{loose_outside}}
use Rattle.lz_vault.proofs.{MakingParts.{Touched}, MakingTexts.{size_from}}
use Rattle.lz_growth.specs.{Growths.{room_for}, Raises.{BeginsAs, IsCleared, IsFirm, StaysFirm}}

pub firm_stays : (n : ℕ) (disk : Medium) → IsFirm n disk → StaysFirm n disk disk
firm_stays n disk firm = record { bytewise = refl; sure = refl; tight = firm.tight }

-- after a sync all is durable
pub firm_synced : (n : ℕ) (disk : Medium) → n ≤ length disk.seen → IsFirm n (synced disk)
firm_synced n disk long = record { long = long; tight = λ i lt. refl }

module _ (n : ℕ) (old new : Medium) (firm : IsFirm n old) (same : IsConsistent old) (stays : StaysFirm n old new) where
  sure_as : (i : ℕ) → i < n → get_or new.sure i 0 ≡ get_or old.seen i 0
  sure_as i lt = ap (λ (t : List ℕ). get_or t i 0) stays.sure ∙ sym (same.same i (omega (arith, firm.long)) (firm.tight i lt))

  sure_long : n ≤ length new.sure
  sure_long = omega (arith, firm.long, ap length stays.sure)

  -- what a crash leaves, and what is read, begins as before
  pub image_begins : (c : List ℕ) → IsImage new c → BeginsAs old.seen n c
  image_begins c image = record {
    long = omega (arith, sure_long, image.no_shorter);
    same = λ i lt. image.sure i (omega (arith, sure_long)) (stays.tight i lt) ∙ sure_as i lt;
  }

  pub seen_begins : IsConsistent new → BeginsAs old.seen n new.seen
  seen_begins now = record {
    long = omega (arith, sure_long, now.no_shorter);
    same = λ i lt. now.same i (omega (arith, sure_long)) (stays.tight i lt) ∙ sure_as i lt;
  }

pub firm_image : (n : ℕ) (disk : Medium) → IsFirm n disk → IsConsistent disk → (c : List ℕ) → IsImage disk c → BeginsAs disk.seen n c
firm_image n disk firm same c image = image_begins n disk disk firm same (firm_stays n disk firm) c image

-- a write behind the first bytes, done or failed
touched_stays : (n : ℕ) (start old : Medium) (at : ℕ) (write : List ℕ) (new : Medium) → StaysFirm n start old → n ≤ at → Touched old at write new → StaysFirm n start new
touched_stays n start old at write new stays behind touched = record {
  bytewise = touched.bytewise ∙ stays.bytewise;
  sure = touched.sure ∙ stays.sure;
  tight = λ i lt. ap (λ (l : List (ℕ × List ℕ)). is_loose l i) touched.loose ∙ loose_outside at write old.loose i (inl (omega arith)) ∙ stays.tight i lt;
}

pub write_stays : (n : ℕ) (start old : Medium) (at : ℕ) (write : List ℕ) (new : Medium) → StaysFirm n start old → n ≤ at → (new ≡ old) ⊎ Touched old at write new → StaysFirm n start new
write_stays n start old at write new stays behind (inl none) = subst (StaysFirm n start) (sym none) stays
write_stays n start old at write new stays behind (inr touched) = touched_stays n start old at write new stays behind touched

-- more slots are cleared
pub more_cleared : (from slot count : ℕ) (t zeros : List ℕ) → from ≤ slot → length zeros ≡ 16 * count → ((i : ℕ) → get_or zeros i 0 ≡ 0) → IsCleared from slot t
    → IsCleared from (slot + count) (overwritten t (room_for slot) zeros)
more_cleared from slot count t zeros le long blank cleared = record {
  long = omega (arith, (size_from t (room_for slot) zeros cleared.long).1);
  zeros = λ i low high. ⊎_elim
      (λ before. over.below t (room_for slot) zeros cleared.long i before ∙ cleared.zeros i low before)
      (λ there. over.inside t (room_for slot) zeros cleared.long i there (omega arith) ∙ blank (i - room_for slot))
      (cases_lt i (room_for slot));
}
