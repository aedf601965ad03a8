-- Worked rows of the language in which a text is read.
use Rattle.lz_serve.specs.declared.language.Language.TheVariants.{Lines, Frames, Either}
use Rattle.lz_serve.specs.declared.reader.Reader.TheVariants as reader
use Rattle.std.proofs.Common.{◌≡◌, ℕ, List, [], Option, Some, None, codes, refl}
use Rattle.lz_resp.specs.{declared.naming.Naming.{Naming, TheVariants.{Rooms, Texts}}, Pieces.{Place}}
use Rattle.lz_serve.specs.{Exchanges.{CameFrom, Exchange, read_as}}

frame : read_as (Either Rooms) (codes "*1\r\n$4\r\nPING\r\n") ≡ Frames Rooms
frame = refl

frame_of_texts : read_as (Either (Texts None)) (codes "*") ≡ Frames (Texts None)
frame_of_texts = refl

line : read_as (Either (Texts None)) (codes "add 5\n") ≡ Lines
line = refl

nothing : read_as (Either Rooms) [] ≡ Either Rooms
nothing = refl

-- where the language is given nothing is guessed
given_lines : read_as Lines (codes "*1\r\n") ≡ Lines
given_lines = refl

given_frames : read_as (Frames Rooms) (codes "add 5\n") ≡ Frames Rooms
given_frames = refl

-- What must not hold.

-- a command without a frame is one of frames
inline_is_no_frame : (naming : Naming) → read_as (Either naming) (codes "PING\r\n") ≡ Frames naming → ⊥
inline_is_no_frame naming is = cc

-- a text that begins otherwise is one of frames
blank_is_no_frame : (naming : Naming) → read_as (Either naming) (codes " *1\r\n") ≡ Frames naming → ⊥
blank_is_no_frame naming is = cc

-- a frame that is read as lines
not_as_lines : (naming : Naming) (exchanges : List Exchange) (kept : Option (List ℕ)) → CameFrom (Either naming) (codes "*1\r\n") exchanges (Some (reader.Lines kept)) → ⊥
not_as_lines naming exchanges kept came = let apart = came.0 in cc

-- a line that is read as frames
not_as_frames : (naming : Naming) (exchanges : List Exchange) (place : Option Place) → CameFrom (Either naming) (codes "add 5\n") exchanges (Some (reader.Frames place)) → ⊥
not_as_frames naming exchanges place came = let apart = came.1 in cc

-- a text that has come and isn't read
not_unread : (naming : Naming) (exchanges : List Exchange) → CameFrom (Either naming) (codes "*") exchanges (Some (reader.Unread naming)) → ⊥
not_unread naming exchanges came = let apart = came.1 in cc

-- frames whose names are read otherwise
not_as_texts : (exchanges : List Exchange) → CameFrom (Either Rooms) (codes "*") exchanges (Some (reader.Unread (Texts None))) → ⊥
not_as_texts exchanges came = let apart = came.0 in cc
