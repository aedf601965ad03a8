use Rattle.lz_serve.proofs.crowd.Crowd.take_scan.Goals as goal
use Rattle.std.proofs.Common.{ap}
use Rattle.lz_serve.{specs.Clients.{Askers}, proofs.PagesTold.{awaits_none_same, awaits_same}}

pub returns-clause-asks : goal.returns-clause-asks
returns-clause-asks g c = awaits_same c.args.self.now.clients _ c.in_ok-token.token c.scan_at-scan.result (ap (λ (a : Askers). a.clients) c.self.view_is) c.scan_at-scan.ensures.some

pub returns-clause-left : goal.returns-clause-left
returns-clause-left g c = λ none. awaits_none_same c.args.self.now.clients _ c.in_ok-token.token (ap (λ (a : Askers). a.clients) c.self.view_is) (c.scan_at-scan.ensures.none none)
