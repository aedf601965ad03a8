-- Passes that have met: what they have seen.
use Rattle.std.proofs.Common.{Option, Some, None, IfSome, option_map, sym, subst}
use Rattle.lz_list.specs.Traces.{Trace, Begins}
use Rattle.lz_board.{specs.{declared.pass.Pass.{Pass}, Seats.{part}}, proofs.{Upkeep.Growth.{extends_of}, Walk.GlanceAnswer.{halt_since}}}
use Rattle.lz_serve.{specs.{Clients.{Askers, HaveSeenIn}, Desks.{Knows}, Halts.{IsCalm, SawHalt, SeesMore}}, proofs.Joins.{seen_later}}

pub sees_halt : (old new : Pass) → SeesMore old new → SawHalt old → SawHalt new
sees_halt old new more seen = halt_since (part old).known (part new).known (extends_of (part old).known (part new).known more.grows) seen

pub sees_calm : (old new : Pass) → SeesMore old new → IsCalm (part old) → IsCalm (part new)
sees_calm old new more calm = subst IsCalm (sym more.kept) calm

pub some_mapped : {X Y : Type 0} (P : Y → Type 0) (f : X → Y) (o : Option X) → IfSome o (λ x. P (f x)) → IfSome (option_map f o) P
some_mapped P f None is = tt
some_mapped P f (Some x) is = is

-- what the clients have seen the pass has that answers, after it has met the one that meets the others
pub reply_seen : (a : Askers) (meeting : Option Trace) (before known : Trace) → Begins before known → IfSome meeting (λ met. Begins met known) → Knows a meeting before → HaveSeenIn a known
reply_seen a None before known grows met knows = seen_later a before known grows knows
reply_seen a (Some there) before known grows met knows = seen_later a there known met knows
