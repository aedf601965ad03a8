use Rattle.lz_serve.proofs.client.Client.new.Goals as goal
use Rattle.std.proofs.Common.{◌≡◌, List, [], IsSome, refl, ap, sym, ◌∙◌, subst}
use mathlib.Core.Bool.{true≢false}
use Rattle.lz_board.specs.declared.pass.Pass.{Pass}
use Rattle.lz_serve.specs.{declared.language.Language.{Language}, Clients.{passes_of}, Conversations.{Talk, nothing_yet}, Lines.{AreBefore}}
use Rattle.lz_serve.proofs.{LinesUnderWay.{none_before, none_earned}, TalksOnStreams.{begins}}

some : (spoken : Language) → IsSome (nothing_yet spoken).reader
some spoken = refl

pub invariant_of-result : goal.invariant_of-result
invariant_of-result g c =
    let nothing = c.new.ensures in
    let new = c.new.result in
    let P = g.S.Stream.promised in
    let puts : List Pass = passes_of c.new-2.result.items in
    let none : puts ≡ [] = ap passes_of c.new-2.ensures.items in (
      λ going. subst (λ (t : Talk). IsSome t.reader) (sym nothing) (some c.language-language.result),
      none_earned P c.args.number [] new.told new.under puts (ap (λ (t : Talk). t.under) nothing) none,
      λ kept. begins (AreBefore P [] new.under puts) g.S.Stream.listed c.args.number (g.S.Stream.traffic c.args.stream) c.language-language.result new c.requires.fresh (none_before P [] new.under puts c.requires.promised) nothing c.language-language.ensures,
      λ held. absurd (cc),
      λ stops. absurd (true≢false (sym stops ∙ ap (λ (t : Talk). t.stops) nothing)),
    )
