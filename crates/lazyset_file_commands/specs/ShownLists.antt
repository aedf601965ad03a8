-- What the keys that are shown of a file have to do with a list of keys.
use Rattle.std.specs.Prelude.{◌↔◌, ℕ, ◌≤◌, List}
use Rattle.lz_slot.specs.{Bytes.{format_of}, Rooms.{last_room_of}, declared.format.Format.{Format}}
use Rattle.lz_judge.specs.{Surveys.{IsSurveyed}, declared.finding.Survey.{Survey}}
use Rattle.lz_vault.specs.Renewals.{AreHeldBy}
use Rattle.lazyset_file_commands.specs.{Checks.{shown_text}, Lists.{Lists, keys}, declared.shown.Shown.TheVariants.{Keys}}

-- What is shown of a file where its keys are asked for is a list just where the file holds a set, and then of the keys of its slots, in their order:
-- a list for each format that has the file's rooms.
abbrev pub ShownKeysAreListed : Type 0
ShownKeysAreListed =
    (t : List ℕ) (survey : Survey) → IsSurveyed t survey → (F : Format) → last_room_of (format_of t) ≤ last_room_of F
    → (ks : List ℕ) → Lists (keys F) (shown_text Keys survey) ks ↔ AreHeldBy t ks
