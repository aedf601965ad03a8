-- What is kept where no service is open: after a stop, after a crash and after an open that is refused, each image has a list.
use Rattle.std.proofs.lemmas.{Bool.Decides.{nat_tests}, Grind.{same_number_lists}}
use Rattle.std.proofs.Common.{◌≡◌, inl, ℕ, Bool, true, false, List, refl, sym, ap, ◌∙◌, subst, arith}
use Rattle.lz_slot.specs.{Histories.{History, Life, lives}, declared.format.Format.{Format}, Bytes.{format_of}}
use Rattle.lz_disk.specs.Images.{Medium, AreBytes, IsImage, at_rest, synced}
use Rattle.lz_vault.specs.Stages.{Suits}
use Rattle.lz_list.specs.Traces.{Trace}
use Rattle.lz_machine.specs.Yards.{Shape}
use Rattle.lz_machine.specs.Runs.{Start, Service, State, Up, Down, Stops, Crashes, OpenFails, Point, MayStep, point_after, shape_of, start_keys}
use Rattle.lz_machine.specs.{Formats.{HasFormat}, Notes.{Notes}, Sound.{UpSound, HasList, DownSound, StateSound, PointSound, IsSound}}
use Rattle.lz_machine.proofs.{Runs.PointParts.{point}, Crash.Image.{image_names, image_suits, images_fit}}

-- a disk of which nothing is loose has one image
pub rest_image : {b : Bool} (t u : List ℕ) → IsImage (at_rest b t) u → u ≡ t
rest_image t u image = same_number_lists u t (omega (arith, image.no_shorter, image.no_longer)) (λ i lt. image.sure i (omega (arith, lt, image.no_longer)) refl)

rest_itself : (b : Bool) (t : List ℕ) → AreBytes t → IsImage (at_rest b t) t
rest_itself b t bytes = record { bytes = bytes; no_shorter = omega arith; no_longer = omega arith; sure = λ i lt off. refl; each = λ on i lt. inl refl }

-- where no service is open, and the disk rests on a text that has a list
pub at_rest_sound : (b : Bool) (shape : Shape) (life : Life) (P : Trace) (t : List ℕ) → AreBytes t → Suits (format_of t) (at_rest b t) → HasList shape.slots life P t → DownSound shape (at_rest b t) life P
at_rest_sound b shape life P t bytes suits has = record {
  sound = record { sure = rest_itself b t bytes; seen = rest_itself b t bytes };
  suits = λ u image. subst (λ (v : List ℕ). Suits (format_of v) (at_rest b t)) (sym (rest_image t u image)) suits;
  each = λ u image. subst (HasList shape.slots life P) (sym (rest_image t u image)) has;
}

-- the service is closed, and the disk stays
pub down_of_up : (n calls : ℕ) (service : Service) (disk : Medium) (life : Life) (P : Trace) (notes : Notes) → UpSound n calls service disk life P notes → DownSound service.yard.shape disk life P
down_of_up n calls service disk life P notes up = record {
  sound = up.sound.images.keeps.sound;
  suits = λ t image. image_suits service.yard.shape service.yard.vault disk up.sound.images t image;
  each = images_fit n calls service disk life P notes up;
}

-- a crash leaves one of the images
pub crashed : (shape : Shape) (disk : Medium) (life : Life) (P : Trace) (t : List ℕ) → IsImage disk t → DownSound shape disk life P → DownSound shape (at_rest disk.bytewise t) life P
crashed shape disk life P t image down = at_rest_sound disk.bytewise shape life P t image.bytes (down.suits t image) (down.each t image)

-- a sync makes the text as read the only image
pub down_synced : (shape : Shape) (disk : Medium) (life : Life) (P : Trace) → DownSound shape disk life P → DownSound shape (synced disk) life P
down_synced shape disk life P down = crashed shape disk life P disk.seen down.sound.seen down

-- a step that adds nothing to the lives
keeps_lives : (start : Start) (p q : Point) → shape_of q.state ≡ shape_of p.state
    → ((life : Life) → StateSound p p.state life → HasFormat (format_of start.text) p.state → StateSound q q.state life × HasFormat (format_of start.text) q.state) → (L : List Life) → PointSound start p L → PointSound start q L
keeps_lives start p q shape keeps L h = grind (arith, nat_tests)

-- on a text at rest
pub rest_format : (F : Format) (b : Bool) (shape : Shape) (t : List ℕ) → format_of t ≡ F → HasFormat F (Down shape (at_rest b t))
rest_format F b shape t is u image = ap format_of (rest_image t u image) ∙ is

-- at a point
pub stops_keeps : (start : Start) (w : State) (M : History) (P : Trace) (calls : ℕ) → IsSound start (point w M P calls) → MayStep w Stops → IsSound start (point_after (point w M P calls) Stops)
stops_keeps start (Up service disk) M P calls sound may = keeps_lives start (point (Up service disk) M P calls) (point_after (point (Up service disk) M P calls) Stops) refl
    (λ life h is. (down_of_up h.0 calls service disk life P h.1 h.2, λ t image. image_names service.yard.shape service.yard.vault disk h.2.sound.images t image ∙ is)) (lives (start_keys start) M) sound
stops_keeps start (Down shape disk) M P calls sound may = sound

pub crashes_keeps : (start : Start) (w : State) (M : History) (P : Trace) (calls : ℕ) (t : List ℕ) → IsSound start (point w M P calls) → MayStep w (Crashes t) → IsSound start (point_after (point w M P calls) (Crashes t))
crashes_keeps start (Up service disk) M P calls t sound may = keeps_lives start (point (Up service disk) M P calls) (point_after (point (Up service disk) M P calls) (Crashes t)) refl
    (λ life h is. (crashed service.yard.shape disk life P t may (down_of_up h.0 calls service disk life P h.1 h.2), rest_format _ disk.bytewise service.yard.shape t (image_names service.yard.shape service.yard.vault disk h.2.sound.images t may ∙ is))) (lives (start_keys start) M) sound
crashes_keeps start (Down shape disk) M P calls t sound may = keeps_lives start (point (Down shape disk) M P calls) (point_after (point (Down shape disk) M P calls) (Crashes t)) refl
    (λ life h is. (crashed shape disk life P t may h, rest_format _ disk.bytewise shape t (is t may))) (lives (start_keys start) M) sound

pub open_fails_keeps : (start : Start) (w : State) (M : History) (P : Trace) (calls why : ℕ) (done : Bool) → IsSound start (point w M P calls) → MayStep w (OpenFails why done) → IsSound start (point_after (point w M P calls) (OpenFails why done))
open_fails_keeps start (Up service disk) M P calls why done sound may = absurd may
open_fails_keeps start (Down shape disk) M P calls why true sound may = keeps_lives start (point (Down shape disk) M P calls) (point_after (point (Down shape disk) M P calls) (OpenFails why true)) refl
    (λ life h is. (down_synced shape disk life P h, rest_format _ disk.bytewise shape disk.seen (is disk.seen h.sound.seen))) (lives (start_keys start) M) sound
open_fails_keeps start (Down shape disk) M P calls why false sound may = sound
