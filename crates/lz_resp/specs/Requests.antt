-- Requests as an item holds them.
use Rattle.std.specs.Prelude.{List, [], ◌∷◌}
use Rattle.lz_proto.specs.declared.request.Request.{Request}
use Rattle.lz_resp.specs.declared.item.Held.{Held, TheVariants.{One, Many}}

-- the requests that are held so
abbrev pub requests_held : Held → List Request
requests_held (One request) = request ∷ []
requests_held (Many requests) = requests.items
