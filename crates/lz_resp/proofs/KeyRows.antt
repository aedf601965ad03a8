-- Worked keys of texts, by Python's hashlib.
use Rattle.std.proofs.Common.{◌≡◌, ◌≢◌, ◌∙◌, [], ◌∷◌, None, refl, sym, codes, arith}
use Rattle.sha2.specs.Sha256.{compress, digest_bytes, first_words, hash_after, rounds, schedule, sha256}
use Rattle.lz_proto.specs.declared.request.Request.TheVariants.{Add, Remove, Has}
use Rattle.lz_resp.specs.{Keys.{block_of, secret_number, selected_first, text_number}, Commands.{item_of, selected_after, ok_text, one_database}, declared.naming.Naming.TheVariants.{Rooms, Texts}}
use Rattle.lz_resp.specs.declared.{naming.Selected.TheVariants.{Room, Nameless}, form.Form.TheVariants.{Added, Removed, Found, Each, Stored}}
use Rattle.lz_resp.specs.declared.item.Item.TheVariants.{Asks, Says}

plain : text_number [] (codes "s") (codes "m") ≡ 750852491603012123
unfolding first_words schedule rounds compress hash_after digest_bytes sha256
plain = refl

no_bytes : text_number [] [] [] ≡ 634128529936681850
unfolding first_words schedule rounds compress hash_after digest_bytes sha256
no_bytes = refl

high_bytes : text_number [] (0xc3 ∷ 0xa9 ∷ 0x74 ∷ 0xc3 ∷ 0xa9 ∷ []) (0xff ∷ 0x80 ∷ []) ≡ 270598408865508056
unfolding first_words schedule rounds compress hash_after digest_bytes sha256
high_bytes = refl

ends_late : text_number [] (codes "ab") (codes "c") ≡ 957243908281160298
unfolding first_words schedule rounds compress hash_after digest_bytes sha256
ends_late = refl

ends_early : text_number [] (codes "a") (codes "bc") ≡ 828760502949312972
unfolding first_words schedule rounds compress hash_after digest_bytes sha256
ends_early = refl

-- with a secret, whose block comes first
keyed : text_number (block_of (codes "0123456789abcdef")) (codes "s") (codes "m") ≡ 237516734950140737
unfolding first_words schedule rounds compress hash_after digest_bytes sha256
keyed = refl

of_the_secret : secret_number (block_of (codes "0123456789abcdef")) ≡ 6603895459456305933
unfolding first_words schedule rounds compress hash_after digest_bytes sha256
of_the_secret = refl

-- a secret matters
secret_matters : text_number (block_of (codes "0123456789abcdef")) (codes "s") (codes "m") ≡ text_number [] (codes "s") (codes "m") → ⊥
secret_matters h = let so : 237516734950140737 ≡ 750852491603012123 = sym keyed ∙ h ∙ plain in omega (arith, so)

-- a key tells where the name ends
ends_matter : text_number [] (codes "ab") (codes "c") ≡ text_number [] (codes "a") (codes "bc") → ⊥
ends_matter h = let so : 957243908281160298 ≡ 828760502949312972 = sym ends_late ∙ h ∙ ends_early in omega (arith, so)

named :
    (item_of (Nameless None) (codes "SADD" ∷ codes "ab" ∷ codes "c" ∷ codes "17" ∷ []) ≡ Asks Added (Add (text_number [] (codes "ab") (codes "c")) ∷ Add (text_number [] (codes "ab") (codes "17")) ∷ []))
    × (item_of (Nameless None) (codes "SREM" ∷ codes "3" ∷ codes "17" ∷ []) ≡ Asks Removed (Remove (text_number [] (codes "3") (codes "17")) ∷ []))
    × (item_of (Nameless None) (codes "SMISMEMBER" ∷ codes "16" ∷ [] ∷ []) ≡ Asks Each (Has (text_number [] (codes "16") []) ∷ []))
named = (refl, refl, refl)

unnamed :
    (item_of (Nameless None) (codes "EXISTS" ∷ codes "x" ∷ []) ≡ Asks Found (Has (text_number [] [] (codes "x")) ∷ []))
    × (item_of (Nameless None) (codes "DEL" ∷ codes "5" ∷ []) ≡ Asks Removed (Remove (text_number [] [] (codes "5")) ∷ []))
    × (item_of (Nameless None) (codes "SETNX" ∷ codes "x" ∷ codes "1" ∷ []) ≡ Asks Added (Add (text_number [] [] (codes "x")) ∷ []))
    × (item_of (Nameless None) (codes "SET" ∷ codes "x" ∷ codes "1" ∷ codes "NX" ∷ []) ≡ Asks Stored (Add (text_number [] [] (codes "x")) ∷ []))
unnamed = (refl, refl, refl, refl)

-- rooms are told apart no more, and a client that selects another one is told so
no_rooms :
    (item_of (Nameless None) (codes "SELECT" ∷ codes "0" ∷ []) ≡ Says ok_text) × (selected_after (Nameless None) (codes "SELECT" ∷ codes "0" ∷ []) ≡ Nameless None)
    × (item_of (Nameless None) (codes "SELECT" ∷ codes "3" ∷ []) ≡ Says one_database) × (selected_after (Nameless None) (codes "SELECT" ∷ codes "3" ∷ []) ≡ Nameless None)
    × (item_of (Nameless None) (codes "SELECT" ∷ codes "16" ∷ []) ≡ Says one_database) × (item_of (Nameless None) (codes "SELECT" ∷ codes "00" ∷ []) ≡ Says one_database)
    × (item_of (Room 5) (codes "SELECT" ∷ codes "3" ∷ []) ≡ Says ok_text) × (selected_after (Nameless None) (codes "RESET" ∷ []) ≡ Nameless None)
    × (selected_first (Texts None) ≡ Nameless None) × (selected_first Rooms ≡ Room 0)
no_rooms = (refl, refl, refl, refl, refl, refl, refl, refl, refl, refl)

-- What must not hold.

-- a room that isn't there is told to be selected, and one that is there isn't
not_selected : (item_of (Nameless None) (codes "SELECT" ∷ codes "1" ∷ []) ≢ Says ok_text) × (item_of (Room 0) (codes "SELECT" ∷ codes "1" ∷ []) ≢ Says one_database)
not_selected = (λ e. cc, λ e. cc)
