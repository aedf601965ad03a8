-- A pass's part through each step on the board.
use Rattle.std.proofs.Common.{◌≡◌, ◌≢◌, ◌⊎◌, inl, ⊎_elim, ℕ, ◌≤◌, ◌==◌, true, false, List, [], ◌∷◌, ◌++◌, map, length, refl, sym, ap, ◌∙◌, subst, arith}
use Rattle.std.{proofs.{Common.{length-append, eq-eqb, ne_eqb, true≢false, le_refl}, lemmas.Bool.{cases_eq}}, specs.Prelude.{if◌then◌else◌}}
use mathlib.Core.Bool.{false≢true}
use Rattle.lz_list.specs.{Traces.{Trace, word_after}, Pinned.{IsQuiet}, declared.layout.Sizes.{Sizes}, Addresses.{word_at}}
use Rattle.lz_machine.{specs.Table.{last_pin}, proofs.Steps.Pin.{quiet_new}}
use Rattle.lz_board.specs.{declared.view.{What.{What, TheVariants.{Called, Played, Found}}, Note.{Note}, Load.{Load}, Part.{Part}}, Notes.{as_list, trace_of}}
use Rattle.lz_board.specs.Notes.{steps_of, Extends, Since, load_note, splice, Quiet, InOrder, IsShared, AllShown, pin_after_played, pin_after, pin_after_what}
use Rattle.lz_board.specs.{Notes.{turned_at}, Kept.{is_calling, shows_played, shows, Knows, PinTold}, Noting.{IsStep, MayNote, KeepsPin, MovesPin}}
use Rattle.lz_board.{specs.Plays.{noted, noted_part, moved_part, knowing, loading, entering, found_note}, proofs.Upkeep.Splice.{trace_splice, own_step}}
use Rattle.lz_board.proofs.Upkeep.Splice.{other_step, steps_splice, steps_splice_other, quiet_more, quiet_splice, quiet_splice_other, pin_splice, turned_splice}
use Rattle.lz_board.proofs.Upkeep.Growth.{extends_more, extends_refl, extends_trans, extends_length, since_more, shown_more, found_splice, found_all}
use Rattle.lz_board.proofs.Upkeep.Growth.{found_same, quiet_more_by}

-- a step of another pass shows no pin word of this one and leaves it
pin_other : (q p : ℕ) (what : What) (pin : ℕ) → IsStep what → p ≢ q → pin_after_what q p what pin ≡ pin
pin_other q p (Called c format) pin step away = refl
pin_other q p (Played e o) pin step away = ap (λ b. if b then pin_after_played e o pin else pin) (ne_eqb p q away)
pin_other q p (Found r v) pin step away = absurd step

shows_other : (q p : ℕ) (what : What) → IsStep what → p ≢ q → shows q p what ≡ false
shows_other q p (Called c format) step away = refl
shows_other q p (Played e o) step away = ap (λ b. if b then shows_played e o else false) (ne_eqb p q away)
shows_other q p (Found r v) step away = absurd step

pub since_length : (p : ℕ) (t known : Trace) → Since p t known → length known ≤ length t
since_length p t known (more, e, none) = extends_length known t (more, e)

order_more : (base m n : ℕ) (hs : List Load) → InOrder base hs m → m ≤ n → InOrder base hs n
order_more base m n [] o le = let a : base ≤ m = o in omega arith
order_more base m n (h ∷ hs) o le = let a = o.0 in (omega arith, o.1)

module _ (z : Sizes) (opened : Trace) (ns : List Note) where
  abbrev t : Trace
  t = trace_of opened ns

  -- what the part has seen
  pub knows_knowing : (h : Part) → Knows z opened ns h → Knows z opened ns (knowing t h)
  knows_knowing h k = record {
    sized = k.sized;
    numbered = k.numbered;
    since = ([], refl, refl);
    noted = k.noted;
    quiet = k.quiet;
    least = k.least;
    order = order_more h.base (length h.known) (length t) h.loads k.order (since_length h.number t h.known k.since);
    shown = k.shown;
    found = found_same opened ns h (knowing t h) refl refl refl k.found;
    began = k.began;
    from = k.from;
    kept = k.kept;
    turned = k.turned;
  }

  pub knows_loading : (i found : ℕ) (h : Part) → Knows z opened ns h → IsShared z (word_at z i) → found ≡ word_after z.buckets t (word_at z i) → Knows z opened ns (loading t i found h)
  knows_loading i found h k shared value = record {
    sized = k.sized;
    numbered = k.numbered;
    since = ([], refl, refl);
    noted = k.noted;
    quiet = k.quiet;
    least = k.least;
    order = (le_refl (length t), order_more h.base (length h.known) (length t) h.loads k.order (since_length h.number t h.known k.since));
    shown = (record { seen = t; begins = extends_refl t; long = refl; shared = subst (λ y. IsShared z (word_at y i)) (sym k.sized) shared; value = value ∙ ap (λ y. word_after z.buckets t (word_at y i)) (sym k.sized) }, k.shown);
    found = found_same opened ns h (loading t i found h) refl refl refl k.found;
    began = k.began;
    from = k.from;
    kept = k.kept;
    turned = k.turned;
  }

  pub knows_entering : (pin : ℕ) (h : Part) → is_calling z h.steps ≡ false → Knows z opened ns h → Knows z opened ns (entering t pin h)
  knows_entering pin h idle k = record {
    sized = k.sized;
    numbered = k.numbered;
    since = ([], refl, refl);
    noted = k.noted;
    quiet = k.quiet;
    least = k.least;
    order = order_more h.base (length h.known) (length t) h.loads k.order (since_length h.number t h.known k.since);
    shown = k.shown;
    found = found_all opened ns (entering t pin h) (le_refl (length t));
    began = extends_trans opened h.begun t k.began k.from;
    from = extends_refl t;
    kept = λ inside. quiet_new z.buckets t t (le_refl (length t));
    turned = λ inside calling. absurd (true≢false (sym calling ∙ idle));
  }

  -- a pin word was found; that of a call is the one which the notes have
  pub knows_found : (q v : ℕ) (h : Part) → Knows z opened ns h → (h.number ≡ q → h.pin ≡ v) → (is_calling z h.steps ≡ true → pin_after h.number ns ≡ h.pin) → Knows z opened (found_note q v ∷ ns) h
  knows_found q v h k same noted_pin = record {
    sized = k.sized;
    numbered = k.numbered;
    since = k.since;
    noted = other_step opened h.number (found_note q v) ns (λ is. let low = k.numbered.0 in absurd (omega (arith, low, is))) ∙ k.noted;
    quiet = ((λ over is. let low = k.numbered.0 in absurd (omega (arith, low, is))), k.quiet);
    least = k.least;
    order = k.order;
    shown = k.shown;
    found = (seen, k.found);
    began = k.began;
    from = k.from;
    kept = k.kept;
    turned = λ inside calling. k.turned inside calling ∙ sym (ap (λ b. if b then turned_at h.number opened ns else trace_of opened ns) (eq-eqb (pin_after h.number (found_note q v ∷ ns)) (pin_after h.number ns) (stays calling)));
  }
    where
      seen : (q == h.number) ≡ true → (h.pin ≡ (if q == h.number then v else pin_after h.number ns)) ⊎ (length (trace_of opened ns) ≤ length h.begun)
      seen is = ⊎_elim
          (λ here. inl (same (sym here) ∙ ap (λ b. if b then v else pin_after h.number ns) (sym is)))
          (λ away. absurd (true≢false (sym is ∙ ne_eqb q h.number away)))
          (cases_eq q h.number)

      stays : is_calling z h.steps ≡ true → pin_after h.number (found_note q v ∷ ns) ≡ pin_after h.number ns
      stays calling = grind (arith, eq-eqb, ne_eqb, cases_eq)

  -- a step of the pass h is noted
  module _ (h : Part) (n : Note) (k : Knows z opened ns h) (may : MayNote z opened ns h n) where
    abbrev now : List Note
    now = noted opened ns h n

    abbrev t' : Trace
    t' = trace_of opened now

    pub trace_noted : t' ≡ as_list n.published ++ t
    trace_noted = ap (λ l. as_list n.published ++ l) (trace_splice opened h.number h.loads ns)

    steps_noted : steps_of h.number now ≡ n ∷ (map (load_note h.number) h.loads ++ h.steps)
    steps_noted = grind (arith, own_step, steps_splice)

    quiet_noted : Quiet opened h.number (length t') now
    quiet_noted = grind (arith, since_length, trace_noted, length-append, quiet_more, quiet_splice)

    least_noted : length opened ≤ length t'
    least_noted =
        let a = extends_length opened h.begun k.began in let b = extends_length h.begun t k.from in
        let long = ap length trace_noted ∙ length-append (as_list n.published) t in omega (arith, a, b, long)

    pin_noted : pin_after h.number (splice opened h.number h.loads ns) ≡ h.pin
    pin_noted = pin_splice opened h.number h.number h.loads ns ∙ may.pin

    pub pin_now : (pin : ℕ) → pin_after_what h.number h.number n.what h.pin ≡ pin → pin_after h.number now ≡ pin
    pin_now pin is = ap (λ b. pin_after_what h.number b n.what (pin_after h.number (splice opened h.number h.loads ns))) may.by ∙ ap (pin_after_what h.number h.number n.what) pin_noted ∙ is

    -- a step that keeps the pin word keeps where it was changed last
    turned_noted : (q : ℕ) → pin_after q now ≡ pin_after q (splice opened h.number h.loads ns) → turned_at q opened now ≡ turned_at q opened ns
    turned_noted q same = ap (λ b. if b then turned_at q opened (splice opened h.number h.loads ns) else trace_of opened (splice opened h.number h.loads ns)) (eq-eqb (pin_after q now) (pin_after q (splice opened h.number h.loads ns)) same) ∙ turned_splice opened q h.number h.loads ns

    -- one that counts it up is the last change
    turned_moved : MovesPin h n → turned_at h.number opened now ≡ t'
    turned_moved moves = grind (arith, ne_eqb, pin_now, pin_noted)

    pub knows_noted : KeepsPin h n → Knows z opened now (noted_part opened ns n h)
    knows_noted keeps = grind (arith, steps_noted, quiet_noted, least_noted, le_refl, pin_now, found_splice, found_same, trace_noted, extends_more, quiet_more_by, turned_noted, pin_noted)

    pub knows_moved : MovesPin h n → Knows z opened now (moved_part opened ns n h)
    knows_moved moves = record {
      sized = k.sized;
      numbered = k.numbered;
      since = ([], refl, refl);
      noted = steps_noted;
      quiet = quiet_noted;
      least = least_noted;
      order = le_refl (length t');
      shown = tt;
      found = found_all opened now (moved_part opened ns n h) (le_refl (length t'));
      began = subst (λ l. Extends l opened) (sym trace_noted) (extends_more (as_list n.published) opened t (extends_trans opened h.begun t k.began k.from));
      from = extends_refl t';
      kept = λ inside. quiet_new z.buckets t' t' (le_refl (length t'));
      turned = λ inside calling. sym (turned_moved moves);
    }

    pub knows_other : (g : Part) → h.number ≢ g.number → Knows z opened ns g → Knows z opened now g
    knows_other g away f =
        let other : n.by ≢ g.number = λ is. away (sym may.by ∙ is) in
        record {
          sized = f.sized;
          numbered = f.numbered;
          since = subst (λ l. Since g.number l g.known) (sym trace_noted) (since_more g.number n.published t g.known (may.made g.number (λ is. away (sym is))) f.since);
          noted = other_step opened g.number n (splice opened h.number h.loads ns) other ∙ steps_splice_other opened g.number h.number h.loads ns away ∙ f.noted;
          quiet = ((λ over. other), quiet_splice_other opened g.number h.number g.base h.loads ns away f.quiet);
          least = f.least;
          order = f.order;
          shown = subst (λ l. AllShown z l g.loads) (sym trace_noted) (shown_more z (as_list n.published) t g.loads f.shown);
          found = ((λ is. absurd (false≢true (sym (shows_other g.number n.by n.what may.step other) ∙ is))), found_splice opened h.number h.loads ns g f.found);
          began = f.began;
          from = subst (λ l. Extends l g.begun) (sym trace_noted) (extends_more (as_list n.published) g.begun t f.from);
          kept = λ inside. subst (IsQuiet z.buckets g.begun) (sym trace_noted) (quiet_more_by z opened ns g n.published f may.prepares inside);
          turned = λ inside calling. f.turned inside calling ∙ sym (turned_noted g.number (pin_other g.number n.by n.what (pin_after g.number (splice opened h.number h.loads ns)) may.step other));
        }

    -- what the notes have of pin words
    pub told_own : (pin : ℕ) → pin_after_what h.number h.number n.what h.pin ≡ pin → pin ≤ last_pin → PinTold z now h.number pin
    told_own pin is worn = record { past = subst (λ v. v ≤ pin) (sym (pin_now pin is)) (le_refl pin); worn = worn; calling = λ calling. pin_now pin is }

    pub told_other : (q pin : ℕ) → q ≢ h.number → PinTold z ns q pin → PinTold z now q pin
    told_other q pin away told = grind (arith, pin_other, pin_splice, other_step, steps_splice_other)
