-- What a service tells of its file. A text is a list of bytes.
use Rattle.std.specs.{Prelude.{◌≡◌, ◌⊎◌, ℕ, List, [], ◌∷◌, ◌++◌, Option, codes}, Io.KnownBytes.{Appends, Consumes}}
use Rattle.lz_proto.specs.Lines.{line_feed}
use Rattle.lz_resp.specs.{Frames.{bulk}, Queries.{row}}
use Rattle.lz_scan_client.specs.declared.shape.Shape.{Shape}

-- what asks for it
abbrev pub shape_request : List ℕ
shape_request = codes "INFO lazyset\r\n"

-- a line begins after this text
abbrev pub IsBeforeLine : List ℕ → Type 0
IsBeforeLine above = (above ≡ []) ⊎ ((lines : List ℕ) × (above ≡ lines ++ line_feed ∷ []))

-- one of the text's lines is the row of this name and number
pub record HasRow (text name : List ℕ) (number : ℕ) : Type 0 where
  pub above : List ℕ
  pub below : List ℕ
  pub begins : IsBeforeLine above
  pub whole : text ≡ above ++ row name number ++ below

-- The format and the slots were asked for, of what came one bulk string was read, and these are the numbers in two of its rows.
pub record IsShape (input left before after : Option (List ℕ)) (shape : Shape) : Type 0 where
  pub info : List ℕ
  pub asked : Appends before after shape_request
  pub read : Consumes input left (bulk info)
  pub format : HasRow info (codes "format") shape.format
  pub slots : HasRow info (codes "slots") shape.slots
