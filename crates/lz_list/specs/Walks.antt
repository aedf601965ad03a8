-- A walk for a key: it loads one word after the other, and holds no lock.
use Rattle.std.specs.Prelude.{ℕ, zero, suc, ◌==◌, nat_lt, if◌then◌else◌, Option, Some, None}
use Rattle.lz_list.specs.declared.{place.Place.{Place, TheVariants.{Bucket, Node}}, word.Word.{Word, TheVariants.{Head, Link, Key}}, flags.Flags.{Flags}}
use Rattle.lz_list.specs.declared.walk.{Look.{Look, TheVariants.{AtHead, AtKey, AtMet, AtBelow}}, Met.{Met, TheVariants.{Absent, Unmarked, Marked}}}
use Rattle.lz_list.specs.{Words.{next_of, flags_of}, Traces.{bucket_of}}

-- A walk goes on, or ends with the place before the key, the slot after that place, and what it met.
pub data Hopped : Type 0 where
  More : Look → Hopped
  End : Place → Option ℕ → Met → Hopped

-- the word that a walk loads next, in a table of so many buckets
abbrev pub wants : ℕ → ℕ → Look → Word
wants buckets k AtHead = Head (bucket_of buckets k)
wants buckets k (AtKey pred s) = Key s
wants buckets k (AtMet pred s) = Link s
wants buckets k (AtBelow s) = Link s

-- from a place along its next link
abbrev pub reaches : Place → ℕ → Hopped
reaches pred zero = End pred None Absent
reaches pred (suc s) = More (AtKey pred s)

abbrev pub met : ℕ → Flags → Met
met s flags = if flags.mark then Marked s flags else Unmarked s flags

-- after a load that gave this word
abbrev pub hopped : ℕ → ℕ → Look → ℕ → Hopped
hopped buckets k AtHead word = reaches (Bucket (bucket_of buckets k)) (next_of word)
hopped buckets k (AtKey pred s) word =
    if word == k then More (AtMet pred s) else if nat_lt word k then More (AtBelow s) else End pred (Some s) Absent
hopped buckets k (AtMet pred s) word = End pred (Some s) (met s (flags_of word))
hopped buckets k (AtBelow s) word = reaches (Node s) (next_of word)
