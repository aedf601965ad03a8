-- The traces of a board of two slots: key 9 found in slot 0, then 12 linked in slot 1, settled, and either the halt, or 12
-- marked, settled as removed, and unlinked.
use Rattle.std.proofs.Common.{◌≡◌, ◌≢◌, inl, inr, ℕ, zero, suc, ◌<◌, ◌==◌, if◌then◌else◌, Bool, true, false, [], ◌∷◌, Some, refl, sym, ◌∙◌, subst, arith}
use mathlib.Core.Bool.{false≢true}
use Rattle.lz_list.specs.declared.{word.Word.{Word, TheVariants.{Head, Link, Key, Pin as PinOf, Halt}}, publishing.Change.TheVariants.{Added, Removed}}
use Rattle.lz_list.specs.declared.publishing.Publishing.TheVariants.{Linked as linked, Marked as marked, Unlinked as unlinked, Settled as settled}
use Rattle.lz_list.specs.declared.publishing.Publishing.TheVariants.{KeyPrepared as key_prepared, LinkPrepared as link_prepared, Halted as halted}
use Rattle.lz_list.specs.{declared.layout.Sizes.{Sizes}, Traces.{Trace, insert, on, bucket_of, word_after, IsLoose, MayLink, MayUnlink, Lawful}, Pinned.{Stood}}
use Rattle.lz_list.proofs.Traces.OpeningTrace.{opening_lawful}
use Rattle.lz_machine.specs.Limbo.{IsAway}
use Rattle.lz_board.specs.{Notes.{IsShared}, Noting.{Writes}, Opened.{shown_in, AreOpened}, Laws.{Prepares}}
use Rattle.test_threads.specs.NineFound.{sizes, nine_words, at_open, key_stored, link_stored, when_linked, when_settled}

pub nine_opened : AreOpened nine_words
unfolding bucket_of
nine_opened = record { found = (omega arith, refl, refl, tt); words = refl }

abbrev pub when_marked : ℕ → Trace
when_marked p = marked 12 1 p ∷ when_settled p

abbrev pub when_removed : ℕ → Trace
when_removed p = settled 1 Removed ∷ when_marked p

-- slot 1 stands on no chain before 12 is linked
off : (t : Bool) → on 0 (if t then insert 9 0 [] else []) 2 ≡ false
off true = refl
off false = refl

loose : IsLoose 1 1 at_open
loose b = off (bucket_of 1 9 == b)

clash : (t : Bool) → on 0 (if t then insert 9 0 [] else []) 2 ≡ true → ⊥
clash t is = absurd (false≢true (sym (off t) ∙ is))

away : (b : ℕ) → Stood 1 b at_open at_open 2 → ⊥
away b (inl h) = clash (bucket_of 1 9 == b) h.1
away b (inr (inl h)) = clash (bucket_of 1 9 == b) h.1
away b (inr (inr (inl h))) = absurd (false≢true h.1)
away b (inr (inr (inr (inl h)))) = absurd (false≢true h.1)
away b (inr (inr (inr (inr h)))) = absurd (false≢true h.1)

away_later : (b : ℕ) → Stood 1 b at_open key_stored 2 → ⊥
away_later b (inl h) = clash (bucket_of 1 9 == b) h.1
away_later b (inr h) = away b h

-- each trace is lawful
open_lawful : Lawful 1 2 at_open
open_lawful = opening_lawful 1 2 (shown_in nine_words 2) nine_opened.found

stored_lawful : Lawful 1 2 link_stored
stored_lawful = (loose, (loose, open_lawful))

may_link : MayLink 1 2 12 1 link_stored
unfolding bucket_of
may_link = record { in_range = omega arith; loose = loose; no_member = refl; no_node = refl; key = refl; link = refl; no_mark = refl; not_added = refl; not_removed = refl }

settled_lawful : (p : ℕ) → Lawful 1 2 (when_settled p)
settled_lawful p = (tt, (may_link, stored_lawful))

marked_lawful : (p : ℕ) → Lawful 1 2 (when_marked p)
unfolding bucket_of
marked_lawful p = ((refl, refl, refl), settled_lawful p)

removed_lawful : (p : ℕ) → Lawful 1 2 (when_removed p)
removed_lawful p = (tt, marked_lawful p)

may_unlink : (p : ℕ) → MayUnlink 1 12 1 (when_removed p)
unfolding bucket_of
may_unlink p = record { stands = refl; key = refl; no_member = refl; removed = refl }

-- each word is stored as the trace has it
key_written : Writes sizes at_open (Key 1) 0 12 (Some (key_prepared 1 12))
key_written = record { shared = omega arith; word = refl; others = others }
  where
    others : (v : Word) → IsShared sizes v → v ≢ Key 1 → word_after 1 key_stored v ≡ word_after 1 at_open v
    others (Head b) h ne = refl
    others (Link s) h ne = refl
    others (Key zero) h ne = refl
    others (Key (suc zero)) h ne = absurd (ne refl)
    others (Key (suc (suc s))) h ne = let l : suc (suc s) < 2 = h in absurd (omega (arith, l))
    others (PinOf p) h ne = absurd h
    others Halt h ne = refl

link_written : Writes sizes key_stored (Link 1) 0 0 (Some (link_prepared 1 0))
link_written = record { shared = omega arith; word = refl; others = others }
  where
    others : (v : Word) → IsShared sizes v → v ≢ Link 1 → word_after 1 link_stored v ≡ word_after 1 key_stored v
    others (Head b) h ne = refl
    others (Link zero) h ne = refl
    others (Link (suc zero)) h ne = absurd (ne refl)
    others (Link (suc (suc s))) h ne = let l : suc (suc s) < 2 = h in absurd (omega (arith, l))
    others (Key s) h ne = refl
    others (PinOf p) h ne = absurd h
    others Halt h ne = refl

others_linked : (p : ℕ) (v : Word) → IsShared sizes v → v ≢ Link 0 → word_after 1 (when_linked p) v ≡ word_after 1 link_stored v
unfolding bucket_of
others_linked p (Head b) h ne = refl
others_linked p (Link zero) h ne = absurd (ne refl)
others_linked p (Link (suc zero)) h ne = refl
others_linked p (Link (suc (suc s))) h ne = let l : suc (suc s) < 2 = h in absurd (omega (arith, l))
others_linked p (Key s) h ne = refl
others_linked p (PinOf q) h ne = absurd h
others_linked p Halt h ne = refl

linked_written : (p : ℕ) → Writes sizes link_stored (Link 0) 8589934592 8589934594 (Some (linked 12 1 p))
unfolding bucket_of
linked_written p = record { shared = omega arith; word = refl; others = others_linked p }

others_settled : (p : ℕ) (v : Word) → IsShared sizes v → v ≢ Link 1 → word_after 1 (when_settled p) v ≡ word_after 1 (when_linked p) v
others_settled p (Head b) h ne = refl
others_settled p (Link zero) h ne = refl
others_settled p (Link (suc zero)) h ne = absurd (ne refl)
others_settled p (Link (suc (suc s))) h ne = let l : suc (suc s) < 2 = h in absurd (omega (arith, l))
others_settled p (Key s) h ne = refl
others_settled p (PinOf q) h ne = absurd h
others_settled p Halt h ne = refl

settled_written : (p : ℕ) → Writes sizes (when_linked p) (Link 1) 0 8589934592 (Some (settled 1 Added))
unfolding bucket_of
settled_written p = record { shared = omega arith; word = refl; others = others_settled p }

others_marked : (p : ℕ) (v : Word) → IsShared sizes v → v ≢ Link 1 → word_after 1 (when_marked p) v ≡ word_after 1 (when_settled p) v
others_marked p (Head b) h ne = refl
others_marked p (Link zero) h ne = refl
others_marked p (Link (suc zero)) h ne = absurd (ne refl)
others_marked p (Link (suc (suc s))) h ne = let l : suc (suc s) < 2 = h in absurd (omega (arith, l))
others_marked p (Key s) h ne = refl
others_marked p (PinOf q) h ne = absurd h
others_marked p Halt h ne = refl

marked_written : (p : ℕ) → Writes sizes (when_settled p) (Link 1) 8589934592 12884901888 (Some (marked 12 1 p))
unfolding bucket_of
marked_written p = record { shared = omega arith; word = refl; others = others_marked p }

others_removed : (p : ℕ) (v : Word) → IsShared sizes v → v ≢ Link 1 → word_after 1 (when_removed p) v ≡ word_after 1 (when_marked p) v
others_removed p (Head b) h ne = refl
others_removed p (Link zero) h ne = refl
others_removed p (Link (suc zero)) h ne = absurd (ne refl)
others_removed p (Link (suc (suc s))) h ne = let l : suc (suc s) < 2 = h in absurd (omega (arith, l))
others_removed p (Key s) h ne = refl
others_removed p (PinOf q) h ne = absurd h
others_removed p Halt h ne = refl

removed_written : (p : ℕ) → Writes sizes (when_marked p) (Link 1) 12884901888 30064771072 (Some (settled 1 Removed))
unfolding bucket_of
removed_written p = record { shared = omega arith; word = refl; others = others_removed p }

others_unlinked : (p : ℕ) (v : Word) → IsShared sizes v → v ≢ Link 0 → word_after 1 (unlinked 12 1 p ∷ when_removed p) v ≡ word_after 1 (when_removed p) v
unfolding bucket_of
others_unlinked p (Head b) h ne = refl
others_unlinked p (Link zero) h ne = absurd (ne refl)
others_unlinked p (Link (suc zero)) h ne = refl
others_unlinked p (Link (suc (suc s))) h ne = let l : suc (suc s) < 2 = h in absurd (omega (arith, l))
others_unlinked p (Key s) h ne = refl
others_unlinked p (PinOf q) h ne = absurd h
others_unlinked p Halt h ne = refl

unlinked_written : (p : ℕ) → Writes sizes (when_removed p) (Link 0) 8589934594 8589934592 (Some (unlinked 12 1 p))
unfolding bucket_of
unlinked_written p = record { shared = omega arith; word = refl; others = others_unlinked p }

halt_written : (p : ℕ) → Writes sizes (when_settled p) Halt 0 1 (Some halted)
halt_written p = record { shared = tt; word = refl; others = others }
  where
    others : (v : Word) → IsShared sizes v → v ≢ Halt → word_after 1 (halted ∷ when_settled p) v ≡ word_after 1 (when_settled p) v
    others (Head b) h ne = refl
    others (Link s) h ne = refl
    others (Key s) h ne = refl
    others (PinOf q) h ne = absurd h
    others Halt h ne = absurd (ne refl)

-- The same where sizes, trace, slot and key are known by equations.
module _ (y : Sizes) (opened P : Trace) (s k : ℕ) (sized : y ≡ sizes) (slot : s ≡ 1) (key : k ≡ 12) where
  pub writes_key : P ≡ at_open → Writes y P (Key s) 0 12 (Some (key_prepared s k))
  writes_key is = subst (λ (x : Sizes × Trace × ℕ × ℕ). Writes x.0 x.1 (Key x.2) 0 12 (Some (key_prepared x.2 x.3))) (λ i. (sym sized i, sym is i, sym slot i, sym key i)) key_written

  pub lawful_key : P ≡ at_open → Lawful y.buckets y.slots (key_prepared s k ∷ P)
  lawful_key is = subst (λ (x : Sizes × Trace × ℕ × ℕ). Lawful x.0.buckets x.0.slots (key_prepared x.2 x.3 ∷ x.1)) (λ i. (sym sized i, sym is i, sym slot i, sym key i)) (loose, open_lawful)

  pub leaves_key : opened ≡ at_open → P ≡ at_open → (t : ℕ) → Prepares t (key_prepared s k) → IsAway y.buckets opened P t
  leaves_key first is t at = subst (λ (x : Sizes × Trace × Trace × ℕ). IsAway x.0.buckets x.1 x.2 x.3) (λ i. (sym sized i, sym first i, sym is i, (sym slot ∙ at) i)) away

  pub writes_link : P ≡ key_stored → Writes y P (Link s) 0 0 (Some (link_prepared s 0))
  writes_link is = subst (λ (x : Sizes × Trace × ℕ). Writes x.0 x.1 (Link x.2) 0 0 (Some (link_prepared x.2 0))) (λ i. (sym sized i, sym is i, sym slot i)) link_written

  pub lawful_link : P ≡ key_stored → Lawful y.buckets y.slots (link_prepared s 0 ∷ P)
  lawful_link is = subst (λ (x : Sizes × Trace × ℕ). Lawful x.0.buckets x.0.slots (link_prepared x.2 0 ∷ x.1)) (λ i. (sym sized i, sym is i, sym slot i)) stored_lawful

  pub leaves_link : opened ≡ at_open → P ≡ key_stored → (t : ℕ) → Prepares t (link_prepared s 0) → IsAway y.buckets opened P t
  leaves_link first is t at = subst (λ (x : Sizes × Trace × Trace × ℕ). IsAway x.0.buckets x.1 x.2 x.3) (λ i. (sym sized i, sym first i, sym is i, (sym slot ∙ at) i)) away_later

  pub writes_linked : (p zero_slot : ℕ) → zero_slot ≡ 0 → P ≡ link_stored → Writes y P (Link zero_slot) 8589934592 8589934594 (Some (linked k s p))
  writes_linked p zero_slot none is = subst (λ (x : Sizes × Trace × ℕ × ℕ × ℕ). Writes x.0 x.1 (Link x.4) 8589934592 8589934594 (Some (linked x.3 x.2 p))) (λ i. (sym sized i, sym is i, sym slot i, sym key i, sym none i)) (linked_written p)

  pub lawful_linked : (p : ℕ) → P ≡ link_stored → Lawful y.buckets y.slots (linked k s p ∷ P)
  lawful_linked p is = subst (λ (x : Sizes × Trace × ℕ × ℕ). Lawful x.0.buckets x.0.slots (linked x.3 x.2 p ∷ x.1)) (λ i. (sym sized i, sym is i, sym slot i, sym key i)) (may_link, stored_lawful)

  pub writes_settled : (p : ℕ) → P ≡ when_linked p → Writes y P (Link s) 0 8589934592 (Some (settled s Added))
  writes_settled p is = subst (λ (x : Sizes × Trace × ℕ). Writes x.0 x.1 (Link x.2) 0 8589934592 (Some (settled x.2 Added))) (λ i. (sym sized i, sym is i, sym slot i)) (settled_written p)

  pub lawful_settled : (p : ℕ) → P ≡ when_linked p → Lawful y.buckets y.slots (settled s Added ∷ P)
  lawful_settled p is = subst (λ (x : Sizes × Trace × ℕ). Lawful x.0.buckets x.0.slots (settled x.2 Added ∷ x.1)) (λ i. (sym sized i, sym is i, sym slot i)) (settled_lawful p)

  pub writes_halt : (p : ℕ) → P ≡ when_settled p → Writes y P Halt 0 1 (Some halted)
  writes_halt p is = subst (λ (x : Sizes × Trace). Writes x.0 x.1 Halt 0 1 (Some halted)) (λ i. (sym sized i, sym is i)) (halt_written p)

  pub lawful_halt : (p : ℕ) → P ≡ when_settled p → Lawful y.buckets y.slots (halted ∷ P)
  lawful_halt p is = subst (λ (x : Sizes × Trace). Lawful x.0.buckets x.0.slots (halted ∷ x.1)) (λ i. (sym sized i, sym is i)) (tt, settled_lawful p)

  pub writes_marked : (p : ℕ) → P ≡ when_settled p → Writes y P (Link s) 8589934592 12884901888 (Some (marked k s p))
  writes_marked p is = subst (λ (x : Sizes × Trace × ℕ × ℕ). Writes x.0 x.1 (Link x.2) 8589934592 12884901888 (Some (marked x.3 x.2 p))) (λ i. (sym sized i, sym is i, sym slot i, sym key i)) (marked_written p)

  pub lawful_marked : (p : ℕ) → P ≡ when_settled p → Lawful y.buckets y.slots (marked k s p ∷ P)
  lawful_marked p is = subst (λ (x : Sizes × Trace × ℕ × ℕ). Lawful x.0.buckets x.0.slots (marked x.3 x.2 p ∷ x.1)) (λ i. (sym sized i, sym is i, sym slot i, sym key i)) (marked_lawful p)

  pub writes_removed : (p : ℕ) → P ≡ when_marked p → Writes y P (Link s) 12884901888 30064771072 (Some (settled s Removed))
  writes_removed p is = subst (λ (x : Sizes × Trace × ℕ). Writes x.0 x.1 (Link x.2) 12884901888 30064771072 (Some (settled x.2 Removed))) (λ i. (sym sized i, sym is i, sym slot i)) (removed_written p)

  pub lawful_removed : (p : ℕ) → P ≡ when_marked p → Lawful y.buckets y.slots (settled s Removed ∷ P)
  lawful_removed p is = subst (λ (x : Sizes × Trace × ℕ). Lawful x.0.buckets x.0.slots (settled x.2 Removed ∷ x.1)) (λ i. (sym sized i, sym is i, sym slot i)) (removed_lawful p)

  pub writes_unlinked : (p zero_slot : ℕ) → zero_slot ≡ 0 → P ≡ when_removed p → Writes y P (Link zero_slot) 8589934594 8589934592 (Some (unlinked k s p))
  writes_unlinked p zero_slot none is = subst (λ (x : Sizes × Trace × ℕ × ℕ × ℕ). Writes x.0 x.1 (Link x.4) 8589934594 8589934592 (Some (unlinked x.3 x.2 p))) (λ i. (sym sized i, sym is i, sym slot i, sym key i, sym none i)) (unlinked_written p)

  pub lawful_unlinked : (p : ℕ) → P ≡ when_removed p → Lawful y.buckets y.slots (unlinked k s p ∷ P)
  lawful_unlinked p is = subst (λ (x : Sizes × Trace × ℕ × ℕ). Lawful x.0.buckets x.0.slots (unlinked x.3 x.2 p ∷ x.1)) (λ i. (sym sized i, sym is i, sym slot i, sym key i)) (may_unlink p, removed_lawful p)
