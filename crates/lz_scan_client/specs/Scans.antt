-- What a scan gives.
use Rattle.lz_scan_client.specs.declared.scanning.ToldKeys.TheVariants as told
use Rattle.std.specs.Prelude.{ℕ, ◌≤◌, ◌<◌, List, length, Option}
use Rattle.lz_scan_client.specs.{Scanning.{HasTold, IsScan}, declared.scanning.ToldKeys.{ToldKeys}}

-- all keys, which are few enough, or how many were told where those are more
abbrev pub IsToldBy : Option (List ℕ) → Option (List ℕ) → Option (List ℕ) → ℕ → ToldKeys → Type 0
IsToldBy input before after most (told.All keys) = IsScan input before after keys.items × (length keys.items ≤ most)
IsToldBy input before after most (told.More many) = HasTold input before after many × (most < many)
