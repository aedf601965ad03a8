-- The first open, and each later one, begins a sound life: at a point.
use Rattle.std.{proofs.Common.{◌≡◌, ℕ, ◌≤◌, List, [], ◌∷◌, length, refl, ◌∙◌, arith}, specs.Cmp.{both_ways}}
use Rattle.lz_slot.specs.{Bytes.{Holds}, Sets.{Keys, Same, members, after}, Histories.{History, Life, Runs, Fits, lives}}
use Rattle.lz_disk.specs.Images.{Medium, IsImage, AreBytes}
use Rattle.lz_list.specs.Traces.{Trace}
use Rattle.lz_machine.specs.{Yards.{Shape, first_trace}, Runs.{Start, IsStart, start_keys, first_point, Down, Opens, MayStep, point_after, keys_found}}
use Rattle.lz_machine.{specs.Sound.{PointSound, IsSound}, proofs.{Runs.PointParts.{point}, Open.{FoundSlots.{first_notes}, FirstState.{opened_up}}}}

-- the first open
pub first_sound : (start : Start) → IsStart start → AreBytes start.text → IsSound start (first_point start)
first_sound start is bytes = (refl, tt, (length (first_trace start.shape start.text), first_notes start.shape start.text, opened_up start.shape start.text (start_keys start) is.buckets.0 is.text bytes start.bytewise 0 is.suits), refl)

-- a text holds one set
pub one_set : (t : List ℕ) (N : ℕ) (S T : Keys) → Holds t N S → Holds t N T → Same S T
one_set t N S T one other k = both_ways (S k) (T k) (λ has. (other.set k).1 ((one.set k).0 has)) (λ has. (one.set k).1 ((other.set k).0 has))

runs_same : (M : History) (S : Keys) (L : List ℕ) (T U : Keys) → Same T U → Runs M S L T → Runs M S L U
runs_same M S [] T U same h = λ k. h k ∙ same k
runs_same M S (i ∷ L) T U same h = (h.0, h.1, h.2, runs_same M (after h.0 S) L T U same h.3)

-- a list that leads to a set leads to one with the same keys
pub fits_same : (S : Keys) (M : History) (L : List ℕ) (T U : Keys) → Same T U → Fits S M L T → Fits S M L U
fits_same S M L T U same h = record { once = h.once; answered = h.answered; not_refused = h.not_refused; order = h.order; runs = runs_same M S L T U same h.runs }

-- a later open, of a text that is one of the disk's images
pub opens_keeps : (start : Start) (shape : Shape) (disk : Medium) (M : History) (P : Trace) (calls : ℕ) → IsStart start → IsImage disk disk.seen
    → IsSound start (point (Down shape disk) M P calls) → MayStep (Down shape disk) Opens → IsSound start (point_after (point (Down shape disk) M P calls) Opens)
opens_keeps start shape disk M P calls is image sound may = go (lives (start_keys start) M) sound
  where
    found : Keys
    found = members (keys_found disk.seen shape.slots)

    go : (L : List Life) → PointSound start (point (Down shape disk) M P calls) L
        → PointSound start (point_after (point (Down shape disk) M P calls) Opens) (record { start = found; history = [] } ∷ L)
    go [] h = absurd h
    go (life ∷ earlier) h =
        let list = h.2.each disk.seen image in (
          h.0,
          (list.calls, fits_same life.start life.history list.calls list.found found (one_set disk.seen shape.slots list.found found list.holds may) list.fits, h.1),
          (
            length (first_trace shape disk.seen),
            first_notes shape disk.seen,
            opened_up shape disk.seen found (some h.0) may image.bytes disk.bytewise calls (h.2.suits disk.seen image),
          ),
          h.3 disk.seen image,
        )
      where
        some : shape ≡ start.shape → 1 ≤ shape.buckets
        some same = rw same is.buckets.0

-- what a disk without an open service reads is one of its images
pub down_seen : (start : Start) (shape : Shape) (disk : Medium) (M : History) (P : Trace) (calls : ℕ) → IsSound start (point (Down shape disk) M P calls) → IsImage disk disk.seen
down_seen start shape disk M P calls sound = grind arith
