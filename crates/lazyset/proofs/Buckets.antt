-- The most buckets of a format are no more than those of all.
use Rattle.std.proofs.Common.{ℕ, ◌≤◌, arith}
use Rattle.lz_slot.specs.{Limits.{most_buckets, most_buckets_of}, declared.format.Format.{Format, TheVariants.{One, Two, Three, Four}}}

pub buckets_of_format : (F : Format) (n : ℕ) → n ≤ most_buckets_of F → n ≤ most_buckets
buckets_of_format One n few = omega arith
buckets_of_format Two n few = omega arith
buckets_of_format Three n few = few
buckets_of_format Four n few = few
