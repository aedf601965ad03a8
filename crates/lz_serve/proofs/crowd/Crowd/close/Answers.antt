use Rattle.lz_serve.proofs.crowd.Crowd.close.Goals as goal
use Rattle.std.proofs.Common.{◌≡◌, Option, None}
use Rattle.lz_serve.{specs.Clients.{Asker}, proofs.Crowds.{changes_at, leave_same, leaves_at, one_so}}

pub returns-in_default-clause-leave : goal.returns-in_default-clause-leave
returns-in_default-clause-leave g c = leave_same c.args.self.now _ c.self.view_is

pub returns-then-close-clause-leave : goal.returns-then-close-clause-leave
returns-then-close-clause-leave g c = leaves_at (λ place. place.client) c.args.self.now c.self.inside.admitted c.self.inside.places.items c.args.token c.close.new.self c.self.view_is c.close.ensures

pub returns-then-close-clause-gone : goal.returns-then-close-clause-gone
returns-then-close-clause-gone g c = one_so (λ place. place.client) (λ (client : Option Asker). client ≡ None) c.self.inside.places.items c.args.token c.close.new.self c.close.ensures

pub returns-else-close-clause-leave : goal.returns-else-close-clause-leave
returns-else-close-clause-leave g c = leaves_at (λ place. place.client) c.args.self.now c.self.inside.admitted c.self.inside.places.items c.args.token c.close.new.self c.self.view_is c.close.ensures

pub returns-else-close-clause-gone : goal.returns-else-close-clause-gone
returns-else-close-clause-gone g c = one_so (λ place. place.client) (λ (client : Option Asker). client ≡ None) c.self.inside.places.items c.args.token c.close.new.self c.close.ensures

pub returns-then-close-clause-others : goal.returns-then-close-clause-others
returns-then-close-clause-others g c = changes_at (λ place. place.client) c.args.self.now c.self.inside.admitted c.self.inside.places.items c.args.token c.close.new.self c.self.view_is

pub returns-else-close-clause-others : goal.returns-else-close-clause-others
returns-else-close-clause-others g c = changes_at (λ place. place.client) c.args.self.now c.self.inside.admitted c.self.inside.places.items c.args.token c.close.new.self c.self.view_is
