use Rattle.lz_refinement.proofs.Calls.WalkedLoad as walked
use Rattle.lz_refinement.proofs.moves.walk_on.Goals as goal
use Rattle.std.proofs.Common.{◌≤◌, ℕ, sym, ap, ◌∙◌, subst}
use Rattle.lz_refinement.proofs.Vocabulary.{told, progress_after, Calling, IsLoading, MayTake, shape_with, id_of, part, with_look}
use Rattle.lz_refinement.proofs.Calls.CountedMoves.{counted_load, shared_word, takes_value}
use Rattle.lz_machine.specs.declared.event.{Event.TheVariants.{Hop}, Outcome.TheVariants.{Value}}

pub wants-requires : goal.wants-requires
wants-requires c =
    let n = c.requires.counted in
    let same = walked.buckets c.args.caller.now c.args.walk.now.look c.args.walk.now c.requires.walk ∙ n.3.buckets in
    subst (λ (m : ℕ). 1 ≤ m) (sym same) c.args.board.now.walkable.some

pub hop-requires-clause-buckets : goal.hop-requires-clause-buckets
hop-requires-clause-buckets c =
    let n = c.requires.counted in
    let same = walked.buckets c.args.caller.now c.args.walk.now.look c.args.walk.now c.requires.walk ∙ n.3.buckets in
    subst (λ (m : ℕ). 1 ≤ m) (sym same) c.args.board.now.walkable.some

pub load-found-requires-clause-word : goal.load-found-requires-clause-word
load-found-requires-clause-word c =
    let n = c.requires.counted in
    let k = with_look c.args.caller.now c.args.walk.now.look in
    let event = walked.event c.args.caller.now c.args.walk.now.look c.args.walk.now c.requires.walk ∙ ap Hop (sym c.wants.ensures) in
    shared_word (id_of c.args.board.now) n.0 n.1 n.2 k (part c.args.pass.now) n.3 c.wants.result event

pub hop-requires-clause-leads : goal.hop-requires-clause-leads
hop-requires-clause-leads c =
    let n = c.requires.counted in
    let k = with_look c.args.caller.now c.args.walk.now.look in
    let event = walked.event c.args.caller.now c.args.walk.now.look c.args.walk.now c.requires.walk ∙ ap Hop (sym c.wants.ensures) in
    walked.leads c.args.caller.now c.args.walk.now.look c.args.walk.now c.requires.walk c.load-found.result
    (takes_value (id_of c.args.board.now) n.0 n.1 n.2 k (part c.args.pass.now) n.3 c.wants.result event c.args.board.now.walkable (part c.load-found.new.pass).known c.load-found.ensures.shown c.load-found.result c.load-found.ensures.value)

pub returns-in-More-clause-goes : goal.returns-in-More-clause-goes
returns-in-More-clause-goes c = λ asked format before C.
    let k = with_look c.args.caller.now c.args.walk.now.look in
    let event = walked.event c.args.caller.now c.args.walk.now.look c.args.walk.now c.requires.walk ∙ ap Hop (sym c.wants.ensures) in
    let hop = sym c.hop.ensures.told ∙ ap (told c.hop.new.self.look) c.in-More.is in
    counted_load (id_of c.args.board.now) asked format before k (part c.args.pass.now) C c.wants.result event c.args.board.now.walkable (part c.load-found.new.pass).known c.load-found.ensures.shown c.load-found.result c.load-found.ensures.value
    (part c.load-found.new.pass) c.load-found.ensures.part _ (walked.goes_on c.args.caller.now c.args.walk.now.look c.args.walk.now c.requires.walk c.load-found.result c.hop.new.self hop)

pub returns-in-More-clause-walk : goal.returns-in-More-clause-walk
returns-in-More-clause-walk c = λ more.
    let hop = sym c.hop.ensures.told ∙ ap (told c.hop.new.self.look) c.in-More.is in
    walked.walks_on c.args.caller.now c.args.walk.now.look c.args.walk.now c.requires.walk c.load-found.result c.hop.new.self hop c.hop.ensures.key c.hop.ensures.buckets

pub load-requires-clause-loading : goal.load-requires-clause-loading
load-requires-clause-loading c =
    subst (λ (q : Calling). IsLoading q.progress) (sym c.walk_to.ensures) (walked.is_loading c.args.caller.now c.args.walk.now.look c.args.walk.now c.requires.walk)

pub load-requires-clause-takes : goal.load-requires-clause-takes
load-requires-clause-takes c =
    let n = c.requires.counted in
    let k = with_look c.args.caller.now c.args.walk.now.look in
    let event = walked.event c.args.caller.now c.args.walk.now.look c.args.walk.now c.requires.walk ∙ ap Hop (sym c.wants.ensures) in
    subst (λ (q : Calling). MayTake q.progress (Value c.load-found.result)) (sym c.walk_to.ensures)
    (takes_value (id_of c.args.board.now) n.0 n.1 n.2 k (part c.args.pass.now) n.3 c.wants.result event c.args.board.now.walkable (part c.load-found.new.pass).known c.load-found.ensures.shown c.load-found.result c.load-found.ensures.value)

pub returns-in-End-clause-goes : goal.returns-in-End-clause-goes
returns-in-End-clause-goes c = λ asked format before C.
    let k = with_look c.args.caller.now c.args.walk.now.look in
    let event = walked.event c.args.caller.now c.args.walk.now.look c.args.walk.now c.requires.walk ∙ ap Hop (sym c.wants.ensures) in
    counted_load (id_of c.args.board.now) asked format before k (part c.args.pass.now) C c.wants.result event c.args.board.now.walkable (part c.load-found.new.pass).known c.load-found.ensures.shown c.load-found.result c.load-found.ensures.value
    (part c.load-found.new.pass) c.load-found.ensures.part c.load.new.self
    (c.load.ensures ∙ ap (λ (q : Calling). record { command = q.command; buckets = q.buckets; passes = q.passes; progress = progress_after (shape_with q) q.command q.progress (Value c.load-found.result) }) c.walk_to.ensures)
