-- Worked pages, as a client asks for them and reads them.
use Rattle.std.{proofs.Common.{◌≡◌, ◌≢◌, ℕ, List, [], ◌∷◌, Ok, Err, Some, None, refl, ap, codes}, specs.Fmt.{digits}}
use Rattle.lz_resp.specs.{Frames.{arguments_of}, Commands.{item_of}, Reading.{Front}, Pages.{page_at, request_text}}
use Rattle.lz_resp.specs.declared.{fault.Fault.TheVariants.{Count, NoBulk}, item.Item.TheVariants.{Lists}, naming.Selected.TheVariants.{Room}}

asked :
    (request_text 512 ≡ codes "LZ.SCAN 512 COUNT 256\r\n")
    × (item_of (Room 0) (arguments_of (codes "LZ.SCAN 512 COUNT 256\r")) ≡ Lists (record { room = None; from = 512; most = 256 }))
unfolding digits
asked = (refl, refl)

read :
    (page_at (codes "*2\r\n$3\r\n512\r\n*2\r\n$2\r\n17\r\n$1\r\n4\r\n*2\r\n") ≡ Ok (Some ((512, 17 ∷ 4 ∷ []), codes "*2\r\n")))
    × (page_at (codes "*2\r\n$1\r\n0\r\n*0\r\n") ≡ Ok (Some ((0, []), [])))
    × (page_at (codes "*2\r\n$1\r\n0\r\n*1\r\n$20\r\n15999999999999999999\r\n") ≡ Ok (Some ((0, 15999999999999999999 ∷ []), [])))
read = (refl, refl, refl)

-- a page that hasn't come whole
waits : (page_at [] ≡ Ok None) × (page_at (codes "*2\r\n$3\r\n51") ≡ Ok None) × (page_at (codes "*2\r\n$1\r\n0\r\n*1\r\n") ≡ Ok None) × (page_at (codes "*2\r\n$1\r\n0\r\n*1\r\n$2\r\n17\r") ≡ Ok None)
waits = (refl, refl, refl, refl)

-- an error, another array, a cursor and a member that are no plain numbers, a member that is no bulk string, and one that is no key's rank
refused :
    (page_at (codes "-ERR invalid cursor\r\n") ≡ Err Count) × (page_at (codes "*3\r\n") ≡ Err Count) × (page_at (codes "*2\r\n$2\r\n00\r\n") ≡ Err Count)
    × (page_at (codes "*2\r\n$1\r\n0\r\n*1\r\n$3\r\nred\r\n") ≡ Err Count) × (page_at (codes "*2\r\n$1\r\n0\r\n*1\r\n:17\r\n") ≡ Err (NoBulk 58))
    × (page_at (codes "*2\r\n$1\r\n0\r\n*1\r\n$20\r\n16000000000000000000\r\n") ≡ Err Count)
refused = (refl, refl, refl, refl, refl, refl)

-- What must not hold.

abbrev next_in : Front (ℕ × List ℕ) → ℕ
next_in (Ok (Some p)) = p.0.0
next_in (Ok None) = 0
next_in (Err f) = 0

abbrev numbers_in : Front (ℕ × List ℕ) → List ℕ
numbers_in (Ok (Some p)) = p.0.1
numbers_in (Ok None) = []
numbers_in (Err f) = []

-- a member that is left out, and a page that is at its end where another one is to come
not_read : (page_at (codes "*2\r\n$1\r\n0\r\n*1\r\n$2\r\n17\r\n") ≢ Ok (Some ((0, []), []))) × (page_at (codes "*2\r\n$2\r\n17\r\n*0\r\n") ≢ Ok (Some ((0, []), [])))
not_read = (λ e. let same : 17 ∷ [] ≡ [] = ap numbers_in e in cc, λ e. let same : 17 ≡ 0 = ap next_in e in cc)
