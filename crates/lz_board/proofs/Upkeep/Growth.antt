-- What the rule says of a pass's part stays so when another pass's step is noted, and comes again when its own is.
use Rattle.std.proofs.Common.{◌≡◌, ◌⊎◌, inl, inr, ⊎_elim, ℕ, suc, ◌%◌, ◌≤◌, ◌==◌, Bool, true, false, List, [], ◌∷◌, ◌++◌, length, refl, sym, ap, ◌∙◌, subst}
use Rattle.std.{proofs.Common.{arith, append_assoc, length-append, true≢false}, specs.Prelude.{if◌then◌else◌, Option, Some, None}}
use Rattle.lz_list.specs.declared.publishing.Publishing.{Publishing, TheVariants.{Linked as linked, Marked as marked, Unlinked as unlinked, Settled as settled}}
use Rattle.lz_list.specs.declared.publishing.Publishing.TheVariants.{KeyPrepared as key_prepared, LinkPrepared as link_prepared, Halted as halted}
use Rattle.lz_list.{specs.{declared.layout.Sizes.{Sizes}, Traces.{Trace, Begins}, Pinned.{Stood, IsQuiet}}, proofs.Traces.Hindsight.{once_from}}
use Rattle.lz_machine.{specs.{Limbo.{IsAway}, Yards.{IsInside}}, proofs.Steps.Walk.{once_some}}
use Rattle.lz_board.specs.declared.view.{Note.{Note}, Load.{Load}, Part.{Part}}
use Rattle.lz_board.specs.Notes.{as_list, trace_of, own, is_for, Extends, Since, load_note, insert_load, splice, AllShown, pin_after, pin_after_what}
use Rattle.lz_board.{specs.{Kept.{shows, FoundSince, Knows}, Noting.{HasLeft, AllLeft, MayPrepare}}, proofs.Upkeep.Splice.{at_place, trace_insert, pin_insert}}

pub extends_more : (a P Q : Trace) → Extends Q P → Extends (a ++ Q) P
extends_more a P Q (more, e) = (a ++ more, ap (λ l. a ++ l) e ∙ sym (append_assoc a more P))

pub extends_refl : (P : Trace) → Extends P P
extends_refl P = ([], refl)

pub extends_trans : (P Q R : Trace) → Extends Q P → Extends R Q → Extends R P
extends_trans P Q R (a, e) (b, f) = (b ++ a, f ∙ ap (λ l. b ++ l) e ∙ sym (append_assoc b a P))

pub extends_length : (P Q : Trace) → Extends Q P → length P ≤ length Q
extends_length P Q (more, e) = let l = ap length e ∙ length-append more P in omega arith

abbrev tail : Trace → Trace
tail [] = []
tail (z ∷ zs) = zs

-- of two beginnings of one trace the longer goes on from the other
pub extends_both : (P Q R : Trace) → Extends R P → Extends R Q → length P ≤ length Q → Extends Q P
extends_both P Q [] (a, e) (b, f) le = nil P Q a b e f
  where
    nil : (P Q a b : Trace) → [] ≡ a ++ P → [] ≡ b ++ Q → Extends Q P
    nil P Q [] [] e f = ([], sym f ∙ e)
    nil P Q (x ∷ a) b e f = absurd cc
    nil P Q [] (x ∷ b) e f = absurd cc
extends_both P Q (r ∷ R) (a, e) ([], f) le = (a, sym f ∙ e)
extends_both P Q (r ∷ R) ([], e) (x ∷ b, f) le = grind (arith, length-append)
extends_both P Q (r ∷ R) (y ∷ a, e) (x ∷ b, f) le = extends_both P Q R (a, ap tail e) (b, ap tail f) le

pub begins_extends : (P more : Trace) → Begins P (more ++ P)
begins_extends [] [] = refl
begins_extends (x ∷ P) [] = inl refl
begins_extends P (m ∷ more) = inr (begins_extends P more)

pub begins_of : (P Q : Trace) → Extends Q P → Begins P Q
begins_of P Q (more, e) = subst (Begins P) (sym e) (begins_extends P more)

pub extends_of : (P Q : Trace) → Begins P Q → Extends Q P
extends_of P [] b = ([], sym b)
extends_of P (e ∷ Q) b = ⊎_elim (λ is. ([], sym is)) (λ r. let x = extends_of P Q r in (e ∷ x.0, ap (λ l. e ∷ l) x.1)) b

-- what stood since a later trace stood since an earlier one
pub stood_longer : (buckets b : ℕ) (P0 P1 P : Trace) (x : ℕ) → Extends P1 P0 → Stood buckets b P1 P x → Stood buckets b P0 P x
stood_longer buckets b P0 P1 P x e h =
    let r = once_some P1 P _ h in
    once_from P0 r.0 P _ (begins_of P0 r.0 (extends_trans P0 P1 r.0 e (extends_of P1 r.0 r.1))) r.2 r.3

-- what is published for no pass of this number
own_listed : (q : ℕ) (x : Option Publishing) (more : Trace) → own q (as_list x) ≡ [] → own q more ≡ [] → own q (as_list x ++ more) ≡ []
own_listed q None more one rest = rest
own_listed q (Some e) more one rest = go (is_for q e) refl
  where
    go : (b : Bool) → is_for q e ≡ b → own q (e ∷ more) ≡ []
    go true is = absurd (cons (sym (ap (λ b. if b then e ∷ [] else []) is) ∙ one))
      where
        cons : (e ∷ []) ≡ [] → ⊥
        cons eq = absurd cc
    go false is = ap (λ b. if b then e ∷ own q more else own q more) is ∙ rest

pub since_more : (q : ℕ) (x : Option Publishing) (t known : Trace) → own q (as_list x) ≡ [] → Since q t known → Since q (as_list x ++ t) known
since_more q x t known none (more, is, none') = (as_list x ++ more, ap (λ l. as_list x ++ l) is ∙ sym (append_assoc (as_list x) more known), own_listed q x more none none')

pub shown_more : (z : Sizes) (a t : Trace) (hs : List Load) → AllShown z t hs → AllShown z (a ++ t) hs
shown_more z a t [] s = tt
shown_more z a t (h ∷ hs) (s, rest) = (record { seen = s.seen; begins = extends_more a s.seen t s.begins; long = s.long; shared = s.shared; value = s.value }, shown_more z a t hs rest)

-- pin words that were shown
module _ (opened : Trace) where
  hop_shows : (q p : ℕ) (h : Load) → shows q p (load_note p h).what ≡ false
  hop_shows q p h = go (p == q)
    where
      go : (b : Bool) → (if b then false else false) ≡ false
      go true = refl
      go false = refl

  pub found_insert : (p : ℕ) (h : Load) (ns : List Note) (g : Part) → FoundSince opened ns g → FoundSince opened (insert_load opened p h ns) g
  found_insert p h [] g f = ((λ is. absurd (true≢false (sym is ∙ hop_shows g.number p h))), tt)
  found_insert p h (x ∷ xs) g f = at_place opened (λ r. FoundSince opened r g) p h x xs
      (λ _. (subst (λ (y : ℕ × Trace). shows g.number x.by x.what ≡ true → (g.pin ≡ pin_after_what g.number x.by x.what y.0) ⊎ (length y.1 ≤ length g.begun)) (λ i. (sym (pin_insert opened g.number p h xs) i, sym (trace_insert opened p h xs) i)) f.0, found_insert p h xs g f.1))
      (λ _. ((λ is. absurd (true≢false (sym is ∙ hop_shows g.number p h))), f))

  pub found_splice : (p : ℕ) (hs : List Load) (ns : List Note) (g : Part) → FoundSince opened ns g → FoundSince opened (splice opened p hs ns) g
  found_splice p [] ns g f = f
  found_splice p (h ∷ hs) ns g f = found_insert p h (splice opened p hs ns) g (found_splice p hs ns g f)

  -- a part that has stored its pin word since all of them
  pub found_all : (ns : List Note) (g : Part) → length (trace_of opened ns) ≤ length g.begun → FoundSince opened ns g
  found_all [] g le = tt
  found_all (n ∷ ns) g le = let l = length-append (as_list n.published) (trace_of opened ns) in ((λ is. inr (omega arith)), found_all ns g (omega arith))

  -- another part of the same pass with the same pin word
  pub found_same : (ns : List Note) (g h : Part) → h.number ≡ g.number → h.pin ≡ g.pin → h.begun ≡ g.begun → FoundSince opened ns g → FoundSince opened ns h
  found_same [] g h number pin begun f = tt
  found_same (n ∷ ns) g h number pin begun f =
      (subst (λ (x : ℕ × ℕ × Trace). shows x.0 n.by n.what ≡ true → (x.1 ≡ pin_after x.0 (n ∷ ns)) ⊎ (length (trace_of opened ns) ≤ length x.2)) (λ i. (sym number i, sym pin i, sym begun i)) f.0, found_same ns g h number pin begun f.1)

  -- what a sighting tells of the part
  pub sighted : (q : ℕ) (ns : List Note) (g : Part) (more rest : List Note) (n : Note) → FoundSince opened ns g → g.number ≡ q → ns ≡ more ++ n ∷ rest → shows q n.by n.what ≡ true → (g.pin ≡ pin_after q (n ∷ rest)) ⊎ (length (trace_of opened rest) ≤ length g.begun)
  sighted q ns g more rest n f number is shown = at more (subst (λ l. FoundSince opened l g) is f)
    where
      at : (more : List Note) → FoundSince opened (more ++ n ∷ rest) g → (g.pin ≡ pin_after q (n ∷ rest)) ⊎ (length (trace_of opened rest) ≤ length g.begun)
      at [] f = subst (λ q. shows q n.by n.what ≡ true → (g.pin ≡ pin_after q (n ∷ rest)) ⊎ (length (trace_of opened rest) ≤ length g.begun)) number f.0 shown
      at (m ∷ more) f = at more f.1

  trace_rest : (more rest : List Note) (n : Note) → Extends (trace_of opened (more ++ n ∷ rest)) (trace_of opened rest)
  trace_rest [] rest n = (as_list n.published, refl)
  trace_rest (m ∷ more) rest n = extends_more (as_list m.published) (trace_of opened rest) (trace_of opened (more ++ n ∷ rest)) (trace_rest more rest n)

-- A slot that all passes have left stood on no chain since the pin of a pass that is inside.
pub left_away : (z : Sizes) (opened : Trace) (ns : List Note) (g : Part) (s : ℕ) → Knows z opened ns g → AllLeft z opened ns s → IsInside g.pin → IsAway z.buckets g.begun (trace_of opened ns) s
left_away z opened ns g s k (inl never) inside = λ b stood. never b (stood_longer z.buckets b opened g.begun (trace_of opened ns) (suc s) k.began stood)
left_away z opened ns g s k (inr left) inside = λ b stood. l.away b (stood_longer z.buckets b (trace_of opened l.sight.rest) g.begun (trace_of opened ns) (suc s)
    (extends_both (trace_of opened l.sight.rest) g.begun (trace_of opened ns) (subst (λ m. Extends (trace_of opened m) (trace_of opened l.sight.rest))
    (sym l.sight.within.1) (trace_rest opened l.sight.within.0 l.sight.rest l.sight.note)) k.from bound) stood)
  where
    l : HasLeft z opened ns g.number s
    l = left g.number k.numbered.0 k.numbered.1

    one : (g.pin ≡ pin_after g.number (l.sight.note ∷ l.sight.rest)) ⊎ (length (trace_of opened l.sight.rest) ≤ length g.begun)
    one = sighted opened g.number ns g l.sight.within.0 l.sight.rest l.sight.note k.found refl l.sight.within.1 l.sight.shown

    bound : length (trace_of opened l.sight.rest) ≤ length g.begun
    bound = ⊎_elim
        (λ same. ⊎_elim
        (λ even. absurd (parity g.pin (ap (λ n. n % 2) same ∙ even) inside))
        (λ x. ⊎_elim
        (λ same'. absurd (x.1 (sym same' ∙ same)))
        (λ le. let m = x.2 in omega (arith, le, m))
        (sighted opened g.number ns g x.0.within.0 x.0.rest x.0.note k.found refl x.0.within.1 x.0.shown))
        l.left)
        (λ le. le)
        one
      where
        parity : (n : ℕ) → n % 2 ≡ 0 → n % 2 ≡ 1 → ⊥
        parity n even odd = let e : 0 ≡ 1 = sym even ∙ odd in absurd (omega (arith, e))

-- so what walkers rely on since their pin isn't prepared again
pub quiet_more_by : (z : Sizes) (opened : Trace) (ns : List Note) (g : Part) (x : Option Publishing) → Knows z opened ns g → MayPrepare z opened ns x → IsInside g.pin → IsQuiet z.buckets g.begun (as_list x ++ trace_of opened ns)
quiet_more_by z opened ns g None k may inside = k.kept inside
quiet_more_by z opened ns g (Some (key_prepared s v)) k may inside = (left_away z opened ns g s k may inside, k.kept inside)
quiet_more_by z opened ns g (Some (link_prepared s v)) k may inside = (left_away z opened ns g s k may inside, k.kept inside)
quiet_more_by z opened ns g (Some (linked a b c)) k may inside = (tt, k.kept inside)
quiet_more_by z opened ns g (Some (marked a b c)) k may inside = (tt, k.kept inside)
quiet_more_by z opened ns g (Some (unlinked a b c)) k may inside = (tt, k.kept inside)
quiet_more_by z opened ns g (Some (settled a b)) k may inside = (tt, k.kept inside)
quiet_more_by z opened ns g (Some halted) k may inside = (tt, k.kept inside)
