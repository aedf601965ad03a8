-- Pages that passes list.
use Rattle.lz_proto.specs.declared.reply.Reply.TheVariants as said
use Rattle.std.specs.Prelude.{ℕ, List, [], ◌∷◌, max, Result, Ok, Err}
use Rattle.lz_proto.specs.declared.{end.End.{End, TheVariants.{Done}}, reply.Reply.{Reply}}
use Rattle.lz_resp.specs.{declared.{form.Form.TheVariants.{Each}, scan.Scan.{Scan}}, Replies.{text_of}, Scans.{page_text}}
use Rattle.lz_board.specs.declared.{answer.GlanceFault.{GlanceFault, TheVariants.{Worn}}, page.{Page.{Page}, ListFault.{ListFault, TheVariants.{Glance}}}}
use Rattle.lz_board.specs.{declared.pass.Pass.{Pass}, Listings.{Lists}, Seats.{BoardId, part}}
use Rattle.lz_set.specs.Names.{MayCall}
use Rattle.lz_serve.specs.Exchanges.{end_by}

-- What was asked for, the page or why there is none, and the pass that looked, as it was before and after.
pub record Listing : Type 0 where
  pub scan : Scan
  pub told : Result Page GlanceFault
  pub before : Pass
  pub after : Pass

-- it came of a list for which there was memory
abbrev pub as_listed : Result Page GlanceFault → Result Page ListFault
as_listed (Ok page) = Ok page
as_listed (Err fault) = Err (Glance fault)

-- The pass listed so on this board, one key at least.
pub record IsListing (b : BoardId) (l : Listing) : Type 0 where
  pub may_call : MayCall b l.before
  pub lists : Lists b.sizes.slots l.scan.from (max 1 l.scan.most) (as_listed l.told) (part l.before) (part l.after)

-- what a client is told where there is no page
abbrev pub fault_reply : GlanceFault → Reply
fault_reply Worn = said.Worn
fault_reply fault = said.Halted

abbrev pub told_text : Scan → Result Page GlanceFault → List ℕ
told_text scan (Ok page) = page_text scan.room page.keys.items page.next
told_text scan (Err fault) = text_of Each (fault_reply fault ∷ [])

abbrev pub told_end : Result Page GlanceFault → End
told_end (Ok page) = Done
told_end (Err fault) = end_by (fault_reply fault ∷ [])

-- the text of what was listed, and how a conversation goes on after it
abbrev pub listing_text : Listing → List ℕ
listing_text l = told_text l.scan l.told

abbrev pub listing_end : Listing → End
listing_end l = told_end l.told
