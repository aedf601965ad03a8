-- A set begins with the members that the text holds which its open read, and such a text explains what was seen before the first call.
use Rattle.std.proofs.Common.{◌≡◌, inl, ℕ, List, [], ◌∷◌, refl, sym, ap, ◌∙◌, subst, le_refl, append-nil, IsTrue}
use Rattle.lz_refinement.proofs.Vocabulary.{Keys, Same, Runs, Holds, Device, IsImage, at_rest, Yard, first_trace, opened_service, OpensYard, Note, sizes_in, opened_by}
use Rattle.lz_refinement.{proofs.{Vocabulary.{BoardId}, Marks.RunningSet.{explained}, Start.OpenedYard.{opened_sizes}}, specs.Holds.{sizes_of}}
use Rattle.lz_refinement.specs.{RunningSets.{Explains, members_of}, Moments.{ExplainsBegun}}
use Rattle.lz_slot.proofs.Files.HeldSets.{holds_same_set}
use Rattle.lz_machine.proofs.Open.FirstPoint.{one_set}
use Rattle.lz_board.proofs.Start.FirstWords.{opens_text}

-- what explains no calls explains a beginning of any notes
no_calls : (b : BoardId) (ns : List Note) (t : List ℕ) → Explains b [] t → ExplainsBegun b ns t
no_calls b ns t e = record { later = ns; before = []; splits = sym (append-nil ns); explains = e }

-- where no call was made the set stays
no_runs : (S T : Keys) (L : List ℕ) → Runs [] S L T → Same S T
no_runs S T [] runs = runs
no_runs S T (i ∷ L) runs = absurd runs.1.1

module _ (b : BoardId) (before after : Device) (buckets passes : ℕ) (y : Yard) (opens : OpensYard before after buckets passes y) (in_words : b.sizes ≡ sizes_in y.words) (trace : b.opened ≡ opened_by y.words) where
  abbrev read : List ℕ
  read = opens.first.text

  sizes : b.sizes ≡ sizes_of y.shape
  sizes = in_words ∙ opened_sizes y read opens.first.starts opens.first.yard

  begins : b.opened ≡ first_trace y.shape read
  begins = trace ∙ (opens_text y.shape read y.words opens.first.starts.text.no_key_twice (ap (λ (x : Yard). x.words) opens.first.yard)).1

  -- the text that was read, which nothing may leave otherwise
  itself : IsImage (at_rest opens.first.bytewise read) read
  itself = record { bytes = opens.first.starts.bytes; no_shorter = le_refl _; no_longer = le_refl _; sure = λ i low sure. refl; each = λ on i low. inl refl }

  first_explains : Explains b [] read
  first_explains = explained b [] (record { bytewise = opens.first.bytewise; shape = y.shape; text = read }) [] sizes opens.first.starts tt refl begins (opened_service y.shape read) (at_rest opens.first.bytewise read) refl read itself

  -- the set begins with the members that the text holds which was read
  pub begins_with_read : IsTrue before.honest → Holds before.medium.seen b.sizes.slots (members_of b.opened)
  begins_with_read honest =
      let e = first_explains in
      let same : Same e.found (members_of b.opened) = λ k. sym (no_runs (members_of b.opened) e.found e.calls e.fits.runs k) in
      subst (λ r. Holds r b.sizes.slots (members_of b.opened)) (opens.first.read honest).1 (holds_same_set read b.sizes.slots e.found (members_of b.opened) same e.holds)

  -- so each text that might have been left before the open explains no calls, where each holds the set that was read
  pub same_set_explains : (ns : List Note) → IsTrue before.honest → (S : Keys) → Holds before.medium.seen b.sizes.slots S → (t : List ℕ) → Holds t b.sizes.slots S → ExplainsBegun b ns t
  same_set_explains ns honest S seen t holds =
      let e = first_explains in
      let was = subst (λ r. Holds r b.sizes.slots S) (sym (opens.first.read honest).1) seen in
      no_calls b ns t (record { found = e.found; holds = holds_same_set t b.sizes.slots S e.found (one_set read b.sizes.slots S e.found was e.holds) holds; calls = e.calls; fits = e.fits; lasts = e.lasts })
