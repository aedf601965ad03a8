-- A worked clearing of room 3: a page of two keys, their removal, and a last page of none.
use Rattle.std.{proofs.Common.{◌≡◌, ◌≢◌, ℕ, List, [], ◌∷◌, Ok, Some, None, refl, ap, codes}, specs.{Fmt.{digits}, Prelude.{slice_index_or}}}
use Rattle.lz_resp.specs.{Clearings.{Hears, Sweep, asking, begun, going_on, integer_at, removal_text}, Commands.{item_of}, Frames.{arguments_of}}
use Rattle.lz_resp.specs.declared.{clearing.Awaits.TheVariants.{Page, Count, Nothing}, form.Form.TheVariants.{Removed}}
use Rattle.lz_resp.specs.declared.{item.Item.TheVariants.{Asks, Lists}, naming.Selected.TheVariants.{Room}}
use Rattle.lz_proto.specs.declared.request.Request.TheVariants.{Remove}

first : (begun 3).asks ≡ codes "SSCAN 3 0 COUNT 256\r\n"
unfolding digits
first = refl

asked_for : item_of (Room 9) (arguments_of (codes "SSCAN 3 0 COUNT 256\r")) ≡ Lists (record { room = Some 3; from = 0; most = 256 })
asked_for = refl

removes : removal_text 3 (17 ∷ 4 ∷ []) ≡ codes "*4\r\n$4\r\nSREM\r\n$1\r\n3\r\n$2\r\n17\r\n$1\r\n4\r\n"
unfolding digits
removes = refl

-- what that asks of a service, whatever room is selected
removed : item_of (Room 9) (codes "SREM" ∷ codes "3" ∷ codes "17" ∷ codes "4" ∷ []) ≡ Asks Removed (Remove 3000000000000000017 ∷ Remove 3000000000000000004 ∷ [])
removed = refl

abbrev sent : Sweep
sent = record (begun 3) { asks = [] }

abbrev asks : Sweep
asks = record sent { awaits = Count 512; asks = removal_text 3 (17 ∷ 4 ∷ []) }

page : Hears (codes "*2\r\n$3\r\n512\r\n*2\r\n$2\r\n17\r\n$1\r\n4\r\n") sent asks
page = refl

half_a_page : Hears (codes "*2\r\n$3\r\n51") sent (record sent { heard = codes "*2\r\n$3\r\n51" })
half_a_page = refl

counted : Hears (codes ":2\r\n") (record asks { asks = [] }) (going_on 512 (record asks { removed = 2 }))
counted = refl

last : Hears (codes "*2\r\n$1\r\n0\r\n*0\r\n") (record sent { removed = 2 }) (record sent { removed = 2; awaits = Nothing })
last = refl

-- What must not hold.

-- a page's keys are removed before the next page is asked for
skips : Hears (codes "*2\r\n$3\r\n512\r\n*1\r\n$2\r\n17\r\n") sent (going_on 512 sent) → ⊥
skips e = let same : Page ≡ Count 512 = ap (λ (s : Sweep). s.awaits) e in cc

four : ◌≡◌ {A = ℕ} 52 51 → ⊥
four e = cc

-- of another room
elsewhere : Hears (codes "*2\r\n$1\r\n0\r\n*1\r\n$2\r\n17\r\n") sent (record sent { awaits = Count 0; asks = removal_text 4 (17 ∷ []) }) → ⊥
unfolding digits
elsewhere e = four (ap (λ (s : Sweep). slice_index_or s.asks 18 0) e)

-- an error is no count
refused : integer_at (codes ":2\r\n") ≢ integer_at (codes "-ERR the service stops\r\n")
refused e = cc
