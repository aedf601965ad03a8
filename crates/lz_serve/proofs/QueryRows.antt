-- Exchanges that ask the service itself: what they come to, and worked ones.
use Rattle.std.{proofs.Common.{◌≡◌, ℕ, Bool, true, false, List, [], ◌∷◌, if◌then◌else◌, refl, codes}, specs.Fmt.{digits}}
use Rattle.lz_proto.specs.declared.{reply.Reply.TheVariants.{Yes}, end.End.{End, TheVariants.{Done, Quit}}}
use Rattle.lz_resp.{specs.{declared.{query.Query.{Query, TheVariants.{Size, Info, Clear, Shutdown}}, figures.Figures.{Figures}}, Queries.{ends_service}, Commands.{error}}, proofs.QueryRows.{seen}}
use Rattle.lz_board.specs.declared.pass.Pass.{Pass}
use Rattle.lz_serve.{specs.{Conversations.{IsTold}, Exchanges.{tells}}, proofs.ConversationRows.{any, gets}}

-- only a service that may be ended is
pub stoppable : (query : Query) (f : Figures) → ends_service query f ≡ true → f.stoppable ≡ true
stoppable Size f ends = cc
stoppable (Info sections) f ends = cc
stoppable (Clear room) f ends = cc
stoppable Shutdown f ends = ends

size : IsTold any 1 [] (tells Size) [] (codes ":3\r\n") Done
unfolding digits
size = (refl, (seen, refl, refl))

ended : IsTold any 1 [] (tells Shutdown) [] [] Quit
ended = (refl, (seen, refl, refl))

refused : IsTold any 1 [] (tells Shutdown) [] (error (codes "SHUTDOWN is taken over a Unix socket alone")) Done
refused = (refl, (record seen { stoppable = false }, refl, refl))

-- What must not hold.

-- nothing is granted for what no pass is asked
not_granted : (p : Pass) (said : List ℕ) (ended : End) → IsTold any 1 [] (tells Size) (gets p Yes) said ended → ⊥
not_granted p said ended told = let none = told.0 in cc

goes_on : (may : Bool) (said : List ℕ) → [] ≡ (if may then [] else 45 ∷ said) → Done ≡ (if may then Quit else Done) → ⊥
goes_on true said text goes = cc
goes_on false said text goes = cc

-- a client that ends the service is told nothing more
not_after_the_end : IsTold any 1 [] (tells Shutdown) [] [] Done → ⊥
not_after_the_end told = goes_on told.1.0.stoppable _ told.1.1 told.1.2
