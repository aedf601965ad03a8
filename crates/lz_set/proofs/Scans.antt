-- A scan tells the members.
use Rattle.std.proofs.{Common.{inl, inr, ℕ, ◌<◌, ◌≤◌, true, Option, Some, None, List, [], ◌∷◌, All, Contains, arith}, lemmas.Bool.{cases_lt}}
use Rattle.std.proofs.lemmas.List.Elements.{All-append, Contains-append_left, Contains-append_right}
use Rattle.lz_slot.specs.Limits.{largest_key}
use Rattle.lz_list.{specs.Traces.{Trace, bucket_of}, proofs.Traces.{Absence.{begins_itself}, Hindsight.{lawful_begins}, WalkEnd.{begins_before}}}
use Rattle.lz_machine.proofs.Frames.Ranges.{on_range}
use Rattle.lz_board.{specs.{Glances.{Between, Glanced}, Listings.{reached, IsDurableIn}}, proofs.Walk.GlanceAnswer.{between_longer}}
use Rattle.lz_board.proofs.Walk.{ListedMore.{glanced_longer}, ListedSlot.{its_node}, OneSlot.{keeps_its_slot}}
use Rattle.lz_set.specs.Scans.{Told, keys_of, Scans, ScansTellMembers}

module _ (slots : ℕ) (P Q : Trace) where
  -- each key that is told was a member at some time
  only : (from : Option ℕ) (ts : List Told) → Scans slots from P ts Q → All (λ k. Glanced k P Q true) (keys_of ts)
  only None [] scans = λ n d low. absurd (omega (arith, low))
  only None (t ∷ ts) scans = absurd scans
  only (Some from) [] scans = absurd scans
  only (Some from) (t ∷ ts) (told, scans) =
      All-append (λ k. Glanced k P Q true) t.keys (keys_of ts)
      (λ n d low. glanced_longer P t.before t.after Q told.from_P told.upto_Q _ (told.page.listed.were n d low))
      (only t.next ts scans)

  -- a key that has one slot all the while is told by the page that goes over that slot
  module _ (s k : ℕ) (low : s < slots) (small : k ≤ largest_key) (stays : (R : Trace) → Between P R Q → IsDurableIn s k R) where
    found : (from : Option ℕ) (ts : List Told) → Scans slots from P ts Q → reached slots from ≤ s → Contains (keys_of ts) k
    found None [] scans high = absurd (omega (arith, low, high))
    found None (t ∷ ts) scans high = absurd scans
    found (Some from) [] scans high = absurd scans
    found (Some from) (t ∷ ts) (told, scans) high = elim (cases_lt s (reached slots t.next)) [
      | inl under ↦ elim (told.page.listed.others s k high under small) [
        | inl there ↦ Contains-append_left t.keys (keys_of ts) k there
        | inr w ↦ absurd (w.away (stays w.then (between_longer P t.before w.then t.after Q told.from_P told.upto_Q w.between)))
      ]
      | inr over ↦ Contains-append_right t.keys (keys_of ts) k (found t.next ts scans over)
    ]

pub scans_tell_members : ScansTellMembers
scans_tell_members buckets slots P Q [] law scans = absurd scans
scans_tell_members buckets slots P Q (t ∷ ts) law (told, scans) = record {
  all = λ k small always.
      let begun = begins_before P t.before Q told.from_P (begins_before t.before t.after Q told.goes_on told.upto_Q) in
      let first = lawful_begins buckets slots P Q begun law in
      let (s, stays) = keeps_its_slot buckets slots k P Q law begun always in
      let here = stays P (record { from = begins_itself P; upto = begun }) in
      found slots P Q s k (on_range buckets slots P (bucket_of buckets k) s first (its_node buckets slots s k P first here).0) small stays (Some 0) (t ∷ ts) (told, scans) (omega arith);
  only = only slots P Q (Some 0) (t ∷ ts) (told, scans);
}
