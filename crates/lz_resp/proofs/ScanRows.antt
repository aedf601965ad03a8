-- Worked scans.
use Rattle.std.{proofs.Common.{◌≡◌, ◌≢◌, [], ◌∷◌, Some, None, refl, codes, arith}, specs.Fmt.{digits}}
use Rattle.lz_resp.specs.{Commands.{bad_cursor, bad_syntax, item_of, no_database, no_number, no_room, no_texts}, Scans.{page_text, told_of}}
use Rattle.lz_resp.specs.declared.{item.Item.TheVariants.{Lists, Says}, naming.Selected.TheVariants.{Room, Nameless}}

-- the room is the one that is named, and not the one that is selected
asked :
    (item_of (Room 9) (codes "SSCAN" ∷ codes "3" ∷ codes "0" ∷ []) ≡ Lists (record { room = Some 3; from = 0; most = 10 }))
    × (item_of (Room 0) (codes "sscan" ∷ codes "15" ∷ codes "4096" ∷ codes "Count" ∷ codes "100" ∷ []) ≡ Lists (record { room = Some 15; from = 4096; most = 100 }))
    × (item_of (Room 0) (codes "SSCAN" ∷ codes "0" ∷ codes "16777216" ∷ codes "COUNT" ∷ codes "257" ∷ []) ≡ Lists (record { room = Some 0; from = 16777216; most = 256 }))
asked = (refl, refl, refl)

-- all rooms, whatever is selected
asked_of_all :
    (item_of (Room 9) (codes "LZ.SCAN" ∷ codes "0" ∷ []) ≡ Lists (record { room = None; from = 0; most = 10 }))
    × (item_of (Nameless None) (codes "lz.scan" ∷ codes "4096" ∷ codes "Count" ∷ codes "257" ∷ []) ≡ Lists (record { room = None; from = 4096; most = 256 }))
    × (item_of (Room 0) (codes "LZ.SCAN" ∷ codes "-1" ∷ []) ≡ Says bad_cursor) × (item_of (Room 0) (codes "LZ.SCAN" ∷ codes "0" ∷ codes "COUNT" ∷ []) ≡ Says bad_syntax)
    × (item_of (Room 0) (codes "LZ.SCAN" ∷ codes "0" ∷ codes "MATCH" ∷ codes "1*" ∷ []) ≡ Says bad_syntax)
    × (item_of (Room 0) (codes "LZ.SCAN" ∷ []) ≡ Says (codes "-ERR wrong number of arguments for 'lz.scan' command\r\n"))
asked_of_all = (refl, refl, refl, refl, refl, refl)

refused :
    (item_of (Nameless None) (codes "SSCAN" ∷ codes "0" ∷ codes "0" ∷ []) ≡ Says no_texts) × (item_of (Room 0) (codes "SSCAN" ∷ codes "16" ∷ codes "0" ∷ []) ≡ Says no_room)
    × (item_of (Room 0) (codes "SSCAN" ∷ codes "0" ∷ codes "-1" ∷ []) ≡ Says bad_cursor) × (item_of (Room 0) (codes "SSCAN" ∷ codes "0" ∷ codes "16777217" ∷ []) ≡ Says bad_cursor)
    × (item_of (Room 0) (codes "SSCAN" ∷ codes "0" ∷ codes "0" ∷ codes "MATCH" ∷ codes "1*" ∷ []) ≡ Says bad_syntax)
    × (item_of (Room 0) (codes "SSCAN" ∷ codes "0" ∷ codes "0" ∷ codes "COUNT" ∷ []) ≡ Says bad_syntax)
    × (item_of (Room 0) (codes "SSCAN" ∷ codes "0" ∷ codes "0" ∷ codes "COUNT" ∷ codes "0" ∷ []) ≡ Says bad_syntax)
    × (item_of (Room 0) (codes "SSCAN" ∷ codes "0" ∷ codes "0" ∷ codes "COUNT" ∷ codes "ten" ∷ []) ≡ Says no_number)
    × (item_of (Room 0) (codes "SSCAN" ∷ codes "0" ∷ []) ≡ Says (codes "-ERR wrong number of arguments for 'sscan' command\r\n"))
refused = (refl, refl, refl, refl, refl, refl, refl, refl, refl)

-- the keys of the room alone; at the end the cursor is 0
told :
    (page_text (Some 3) (3000000000000000017 ∷ 17 ∷ 3000000000000000004 ∷ []) (Some 512) ≡ codes "*2\r\n$3\r\n512\r\n*2\r\n$2\r\n17\r\n$1\r\n4\r\n")
    × (page_text (Some 0) [] (Some 4096) ≡ codes "*2\r\n$4\r\n4096\r\n*0\r\n") × (page_text (Some 0) (0 ∷ []) None ≡ codes "*2\r\n$1\r\n0\r\n*1\r\n$1\r\n0\r\n")
    × (page_text None (3000000000000000017 ∷ 4 ∷ []) (Some 512) ≡ codes "*2\r\n$3\r\n512\r\n*2\r\n$19\r\n3000000000000000017\r\n$1\r\n4\r\n")
unfolding digits
told = (refl, refl, refl, refl)

-- What must not hold.

-- a set's name told as a database
not_refused : item_of (Room 0) (codes "SSCAN" ∷ codes "seen" ∷ codes "0" ∷ []) ≢ Says no_database
not_refused e = cc

-- a key of another room, a cursor that goes on where all slots were looked at, and a key of all rooms by its number in its own
not_told : (page_text (Some 0) (3000000000000000017 ∷ []) None ≢ codes "*2\r\n$1\r\n0\r\n*1\r\n$2\r\n17\r\n") × (page_text (Some 0) [] None ≢ codes "*2\r\n$2\r\n10\r\n*0\r\n")
    × (told_of None 3000000000000000017 ≢ 17)
unfolding digits
not_told = (λ e. cc, λ e. cc, λ e. omega (arith, e))
