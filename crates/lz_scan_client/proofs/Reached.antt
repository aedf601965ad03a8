-- How far a scan has come.
use Rattle.std.proofs.Common.{◌≡◌, ℕ, zero, suc, List, [], ◌++◌, Option, Some, None, refl, sym, subst}
use Rattle.std.{proofs.KnownBytes.{Appends-nil, Appends-trans, Consumes-trans}, specs.Io.KnownBytes.{Appends, Consumes, prepend_known}}
use Rattle.lz_resp.specs.Pages.{request_text, told_text}
use Rattle.lz_scan_client.{specs.{Told.{AreOnce}, Scanning.{GoesTo, IsAt, LeadsOn, begins, cursor_after, one_page}}, proofs.{OneEach.{none_told}, Unread.{none_kept}}}

-- a page more was asked for and told
pub page_goes : (cursor next : ℕ) (page keys new : List ℕ) (left later written after : Option (List ℕ))
    → LeadsOn cursor next → Appends written after (request_text cursor) → Consumes left later (told_text next page)
    → ((told : List ℕ) → AreOnce told keys → AreOnce (told ++ page) new)
    → GoesTo (Some cursor) left written keys (cursor_after next) later after new
page_goes cursor next page keys new left later written after on asks comes adds input before at = record {
  sent = at.sent ++ request_text cursor;
  replies = at.replies ++ told_text next page;
  told = at.told ++ page;
  scanned = one_page cursor next page at.sent at.replies at.told on at.scanned;
  read = Consumes-trans input left later at.replies (told_text next page) at.read comes;
  wrote = Appends-trans before written after at.sent (request_text cursor) at.wrote asks;
  once = adds at.told at.once;
}

-- where the cursor that was told is none or goes on
pub cursor_ends : (next : ℕ) → next ≡ 0 → cursor_after next ≡ None
cursor_ends zero is = refl
cursor_ends (suc n) is = absurd (cc)

-- nothing was asked yet
pub at_first : (input before : Option (List ℕ)) (kept keys : List ℕ) → kept ≡ [] → keys ≡ [] → IsAt (Some 0) input (prepend_known kept input) before before keys
at_first input before kept keys none empty = subst (λ (ks : List ℕ). IsAt (Some 0) input (prepend_known kept input) before before ks) (sym empty) (record {
  sent = [];
  replies = [];
  told = [];
  scanned = begins;
  read = none_kept input kept none;
  wrote = Appends-nil before;
  once = none_told;
})
