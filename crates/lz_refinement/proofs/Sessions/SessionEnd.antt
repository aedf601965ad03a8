-- What is left once a session has ended.
use Rattle.std.proofs.{Common.{arith, ◌≡◌, ℕ, List, [], sym, subst}, lemmas.Bool.Decides.{nat_tests}}
use Rattle.lz_refinement.proofs.{Vocabulary.{Format, Same, IsPlain, Trace, Note, Part, shape_of_sizes, BoardId}, Sessions.PlainRows.{LeadsTo}}
use Rattle.lz_refinement.{proofs.Sessions.ServedCalls.{told_after, served_told, plain_served, whole_none, fits_plain, leads_after, plain_to}, specs.Marks.{marks_in}}
use Rattle.lz_refinement.specs.{OneCaller.{keys_in}, RunningSets.{members_of, Explains}}
use Rattle.lz_refinement.specs.Sessions.{AnsweredCalls, PlainRun, NoneCut, marks_alone, IsSession, SessionIsPlain, SessionIsHeld}

-- at first the history leads to the set with which the life began
pub leads_none : (p : ℕ) (opened : Trace) (old : Part) → old.known ≡ opened → LeadsTo (members_of opened) (marks_alone p []) (keys_in old.known)
leads_none p opened old known = subst (λ (P : Trace). LeadsTo (members_of opened) (marks_alone p []) (keys_in P)) (sym known) (λ T plain k. sym (plain k))

module _ (b : BoardId) (F : Format) (ns : List Note) (calls : AnsweredCalls) (before after : Part) (session : IsSession b F ns calls before after) where
  -- the history of the notes
  pub session_marks : marks_in (shape_of_sizes b.sizes) ns ≡ marks_alone after.number (told_after calls [])
  session_marks = grind (arith, nat_tests, served_told, told_after, shape_of_sizes)

  session_plain : PlainRun F b.sizes.slots calls (members_of b.opened) (members_of after.known)
  session_plain = grind (arith, nat_tests, plain_served)

  module _ (t : List ℕ) (explains : Explains b ns t) where
    plain : IsPlain (members_of b.opened) (marks_alone after.number (told_after calls [])) explains.found
    plain = grind (arith, nat_tests, fits_plain, whole_none, session_marks)

    held_run : PlainRun F b.sizes.slots calls (members_of b.opened) explains.found
    held_run = grind (arith, nat_tests, plain_to, leads_none, plain)

    held_whole : NoneCut calls → Same explains.found (members_of after.known)
    held_whole none =
        leads_after after.number b.sizes F session.alone (members_of b.opened) calls [] before after none session.served
        (leads_none after.number b.opened before session.known) explains.found plain

pub session_is_plain : SessionIsPlain
session_is_plain b F ns calls before after session = session_plain b F ns calls before after session

pub session_is_held : SessionIsHeld
session_is_held b F ns calls before after session t explains = (held_run b F ns calls before after session t explains, held_whole b F ns calls before after session t explains)
