-- What a scan of all rooms asks and is told, page by page. Keys are told by their ranks. A text is a list of bytes.
use Rattle.std.specs.{Prelude.{◌≡◌, ◌⊎◌, ◌<◌, ℕ, zero, suc, List, [], ◌++◌, length, Option, None, Some}, Io.KnownBytes.{Appends, Consumes, prepend_known}}
use Rattle.lz_resp.specs.Pages.{request_text, told_text}
use Rattle.lz_scan_client.specs.{Told.{AreOnce}, declared.replies.Replies.{Replies}}

-- the cursor to go on with after a page that told this one: none at the end
abbrev pub cursor_after : ℕ → Option ℕ
cursor_after zero = None
cursor_after (suc n) = Some (suc n)

-- a page leads on: to the end, or to a later cursor
abbrev pub LeadsOn : ℕ → ℕ → Type 0
LeadsOn cursor next = (next ≡ 0) ⊎ (cursor < next)

-- A scan has come to this cursor, or to its end: these requests were sent one after the other, these replies came to them, and they told
-- these keys. It begins with cursor 0, goes on with the one that was told last, which is a later one, and ends where that is 0.
pub data Scanned : Option ℕ → List ℕ → List ℕ → List ℕ → Type 0 where
  begins : Scanned (Some 0) [] [] []
  one_page : (cursor next : ℕ) (keys sent replies told : List ℕ) → LeadsOn cursor next → Scanned (Some cursor) sent replies told
      → Scanned (cursor_after next) (sent ++ request_text cursor) (replies ++ told_text next keys) (told ++ keys)

-- A scan has come so far, from this input, of which this is left, over this output, which has become that: these are the keys.
pub record IsAt (cursor : Option ℕ) (input left before after : Option (List ℕ)) (keys : List ℕ) : Type 0 where
  pub sent : List ℕ
  pub replies : List ℕ
  pub told : List ℕ
  pub scanned : Scanned cursor sent replies told
  pub read : Consumes input left replies
  pub wrote : Appends before after sent
  pub once : AreOnce told keys

-- where a scan that has come to one place has come to another
abbrev pub GoesTo : Option ℕ → Option (List ℕ) → Option (List ℕ) → List ℕ → Option ℕ → Option (List ℕ) → Option (List ℕ) → List ℕ → Type 0
GoesTo cursor left written keys next next_left next_written next_keys =
    (input before : Option (List ℕ)) → IsAt cursor input left before written keys → IsAt next input next_left before next_written next_keys

-- All was scanned to the end: these are the keys.
abbrev pub IsScan : Option (List ℕ) → Option (List ℕ) → Option (List ℕ) → List ℕ → Type 0
IsScan input before after keys = (left : Option (List ℕ)) × IsAt None input left before after keys

-- So many keys were told, each counted once, and perhaps more are to come.
abbrev pub HasTold : Option (List ℕ) → Option (List ℕ) → Option (List ℕ) → ℕ → Type 0
HasTold input before after many = (cursor : Option ℕ) × (left : Option (List ℕ)) × (keys : List ℕ) × IsAt cursor input left before after keys × (length keys ≡ many)

-- what of the input wasn't read as pages: what was kept, and what the reader has left
abbrev pub unread : Replies → Option (List ℕ) → Option (List ℕ)
unread replies left = prepend_known replies.kept.items left
