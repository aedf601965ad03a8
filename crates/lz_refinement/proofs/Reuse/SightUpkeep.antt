-- What the notes show of pin words stays shown, and a slot that passes have left stays left while it stands on no chain.
use Rattle.std.proofs.Common.{◌≡◌, inl, inr, ⊎_elim, ℕ, ◌%◌, ◌≤◌, true, List, [], ◌∷◌, ◌++◌, length, refl, sym, ap, ◌∙◌, subst, true≢false, Option, Some, None}
use Rattle.lz_refinement.proofs.Vocabulary.{of_pass, Use, Free, Taken, Limbo, Sight, Publishing, Trace, IsLoose, IsAway, Sizes, Note, Load, as_list, trace_of}
use Rattle.lz_refinement.proofs.Vocabulary.{load_note, insert_load, splice, pin_after, pin_after_what, shows, Sighting, HasLeft, AllLeft}
use Rattle.lz_refinement.specs.Reuse.{SightTold, UseTold}
use Rattle.lz_allot.specs.declared.sight.Sight.TheVariants.{Unseen, Inside, Left}
use Rattle.lz_board.proofs.Upkeep.Splice.{at_place, trace_insert, trace_splice, pin_insert}

-- the sighting x, seen in other notes: as long a trace before it, and the same pin word
pub record Same (opened : Trace) (ns ms : List Note) (q : ℕ) (x : Sighting opened ns q) : Type 0 where
  pub seen : Sighting opened ms q
  pub trace : trace_of opened seen.rest ≡ trace_of opened x.rest
  pub value : pin_after q (seen.note ∷ seen.rest) ≡ pin_after q (x.note ∷ x.rest)

-- more notes before them
more_notes : (opened : Trace) (ns : List Note) (q : ℕ) (n : Note) (x : Sighting opened ns q) → Same opened ns (n ∷ ns) q x
more_notes opened ns q n x = record { seen = record { note = x.note; rest = x.rest; within = (n ∷ x.within.0, ap (λ l. n ∷ l) x.within.1); shown = x.shown }; trace = refl; value = refl }

-- a load put in
in_insert : (opened : Trace) (q p : ℕ) (h : Load) (more rest : List Note) (n : Note) → shows q n.by n.what ≡ true → (ns : List Note) → ns ≡ more ++ n ∷ rest
    → (ms : List Note) × (note : Note) × (rest' : List Note) × ((more' : List Note) × (insert_load opened p h ns ≡ more' ++ note ∷ rest')) × (shows q note.by note.what ≡ true) × (trace_of opened rest' ≡ trace_of opened rest) × (pin_after q (note ∷ rest') ≡ pin_after q (n ∷ rest))
in_insert opened q p h [] rest n shown ns is = subst At (sym is) (at_place opened Goes p h n rest
    (λ over. (insert_load opened p h rest, n, insert_load opened p h rest, ([], refl), shown, trace_insert opened p h rest, ap (pin_after_what q n.by n.what) (pin_insert opened q p h rest)))
    (λ here. (rest, n, rest, (load_note p h ∷ [], refl), shown, refl, refl)))
  where
    Goes : List Note → Type 0
    Goes r = (ms : List Note) × (note : Note) × (rest' : List Note) × ((more' : List Note) × (r ≡ more' ++ note ∷ rest')) × (shows q note.by note.what ≡ true) × (trace_of opened rest' ≡ trace_of opened rest) × (pin_after q (note ∷ rest') ≡ pin_after q (n ∷ rest))

    At : List Note → Type 0
    At l = Goes (insert_load opened p h l)
in_insert opened q p h (m ∷ more) rest n shown ns is = subst At (sym is) (at_place opened Goes p h m (more ++ n ∷ rest)
    (λ over. let r = in_insert opened q p h more rest n shown (more ++ n ∷ rest) refl in (r.0, r.1, r.2, (m ∷ r.3.0, ap (λ l. m ∷ l) r.3.1), r.4, r.5, r.6))
    (λ here. (rest, n, rest, (load_note p h ∷ m ∷ more, refl), shown, refl, refl)))
  where
    Goes : List Note → Type 0
    Goes r = (ms : List Note) × (note : Note) × (rest' : List Note) × ((more' : List Note) × (r ≡ more' ++ note ∷ rest')) × (shows q note.by note.what ≡ true) × (trace_of opened rest' ≡ trace_of opened rest) × (pin_after q (note ∷ rest') ≡ pin_after q (n ∷ rest))

    At : List Note → Type 0
    At l = Goes (insert_load opened p h l)

insert_same : (opened : Trace) (p : ℕ) (h : Load) (ns : List Note) (q : ℕ) (x : Sighting opened ns q) → Same opened ns (insert_load opened p h ns) q x
insert_same opened p h ns q x =
    let r = in_insert opened q p h x.within.0 x.rest x.note x.shown ns x.within.1 in
    record { seen = record { note = r.1; rest = r.2; within = r.3; shown = r.4 }; trace = r.5; value = r.6 }

splice_same : (opened : Trace) (p : ℕ) (hs : List Load) (ns : List Note) (q : ℕ) (x : Sighting opened ns q) → Same opened ns (splice opened p hs ns) q x
splice_same opened p [] ns q x = record { seen = x; trace = refl; value = refl }
splice_same opened p (h ∷ hs) ns q x =
    let r = splice_same opened p hs ns q x in
    let s = insert_same opened p h (splice opened p hs ns) q r.seen in
    record { seen = s.seen; trace = s.trace ∙ r.trace; value = s.value ∙ r.value }

-- a step of another pass or of this one, after the loads
pub noted_same : (opened : Trace) (p : ℕ) (hs : List Load) (ns : List Note) (n : Note) (q : ℕ) (x : Sighting opened ns q) → Same opened ns (n ∷ splice opened p hs ns) q x
noted_same opened p hs ns n q x =
    let r = splice_same opened p hs ns q x in
    let s = more_notes opened (splice opened p hs ns) q n r.seen in
    record { seen = s.seen; trace = s.trace ∙ r.trace; value = s.value ∙ r.value }

-- a slot that stays loose stays away
away_more : (buckets : ℕ) (P0 P : Trace) (x : Option Publishing) (s : ℕ) → IsLoose buckets s (as_list x ++ P) → IsAway buckets P0 P s → IsAway buckets P0 (as_list x ++ P) s
away_more buckets P0 P None s loose away = away
away_more buckets P0 P (Some e) s loose away = λ b stood. ⊎_elim (λ now. absurd (true≢false (sym now.1 ∙ loose b))) (λ before. away b before) stood

-- a slot that was on no chain since some trace is on none after what was published now
abbrev pub StaysAway : ℕ → Trace → Option Publishing → ℕ → Type 0
StaysAway buckets P x s = (P0 : Trace) → IsAway buckets P0 P s → IsAway buckets P0 (as_list x ++ P) s

pub silent_stays : (buckets : ℕ) (P : Trace) (x : Option Publishing) (s : ℕ) → x ≡ None → StaysAway buckets P x s
silent_stays buckets P x s none P0 away = subst (λ y. IsAway buckets P0 (as_list y ++ P) s) (sym none) away

pub loose_stays : (buckets : ℕ) (P : Trace) (x : Option Publishing) (s : ℕ) → IsLoose buckets s (as_list x ++ P) → StaysAway buckets P x s
loose_stays buckets P x s loose P0 away = away_more buckets P0 P x s loose away

module _ (z : Sizes) (opened : Trace) (p : ℕ) (hs : List Load) (ns : List Note) (n : Note) (s : ℕ) (stays : StaysAway z.buckets (trace_of opened ns) n.published s) where
  abbrev now : List Note
  now = n ∷ splice opened p hs ns

  trace_now : trace_of opened now ≡ as_list n.published ++ trace_of opened ns
  trace_now = ap (λ l. as_list n.published ++ l) (trace_splice opened p hs ns)

  away_now : (P0 P0' : Trace) → P0' ≡ P0 → IsAway z.buckets P0 (trace_of opened ns) s → IsAway z.buckets P0' (trace_of opened now) s
  away_now P0 P0' same away = subst (λ (x : Trace × Trace). IsAway z.buckets x.0 x.1 s) (λ i. (sym same i, sym trace_now i)) (stays P0 away)

  pub left_more : (q : ℕ) → HasLeft z opened ns q s → HasLeft z opened now q s
  left_more q l =
      let x = noted_same opened p hs ns n q l.sight in
      record {
        sight = x.seen;
        away = away_now (trace_of opened l.sight.rest) (trace_of opened x.seen.rest) x.trace l.away;
        left = ⊎_elim
            (λ even. inl (ap (λ v. v % 2) x.value ∙ even))
            (λ y. let w = noted_same opened p hs ns n q y.0 in
            inr (w.seen, (λ same. y.1 (sym w.value ∙ same ∙ x.value)), subst (λ (t : Trace × Trace). length t.0 ≤ length t.1) (λ i. (sym x.trace i, sym w.trace i)) y.2))
            l.left;
      }

  pub all_left_more : AllLeft z opened ns s → AllLeft z opened now s
  all_left_more a = ⊎_elim (λ never. inl (away_now opened opened refl never)) (λ each. inr (λ q low high. left_more q (each q low high))) a

  pub sight_more : (q : ℕ) (sight : Sight) → SightTold z opened ns q s sight → SightTold z opened now q s sight
  sight_more q Unseen told = tt
  sight_more q (Inside u) told =
      let x = noted_same opened p hs ns n q told.0 in
      (x.seen, x.value ∙ told.1, away_now (trace_of opened told.0.rest) (trace_of opened x.seen.rest) x.trace told.2)
  sight_more q Left told = left_more q told

  -- a use that the notes tell is told by the longer notes
  pub use_more : (u : Use) → UseTold z opened ns s u → UseTold z opened now s u
  use_more Free told = all_left_more told
  use_more Taken told = tt
  use_more (Limbo sights) told = (told.0, λ q one most. sight_more q (of_pass sights q Left) (told.1 q one most))
