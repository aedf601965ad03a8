-- What a write into the slots makes of a file that grows.
use Rattle.std.proofs.Common.{◌≡◌, ℕ, ◌+◌, ◌≤◌, List, length, sym, subst}
use Rattle.lz_disk.specs.Images.{Medium, written}
use Rattle.lz_growth.{specs.{Growths.{IsRaisable, room_for}, Fronts.{IsFronted}}, proofs.FrontMedia.{written_fronted}}

pub written_raisable : (N : ℕ) (old new : Medium) (at : ℕ) (bytes : List ℕ) → IsFronted N old → 16 ≤ at → at + length bytes ≤ room_for N → new ≡ written old at bytes → IsRaisable new.seen N
written_raisable N old new at bytes is low high same =
    let after = written_fronted N old at bytes is low high in
    subst (λ (m : Medium). IsRaisable m.seen N) (sym same) (record { long = after.seen_long; head = after.head })
