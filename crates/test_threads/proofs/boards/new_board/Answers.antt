use Rattle.test_threads.proofs.boards.new_board.Goals as goal
use Rattle.std.{proofs.{Common.{◌≡◌, ◌%◌, sym, ap, ◌∙◌, subst}, lemmas.List.Elements.{All-pop, All-weaker}}, specs.Prelude.{IfSome}}
use Rattle.lz_list.specs.{declared.word.Word.TheVariants.{Head, Link, Key}, Words.{set}, Addresses.{sizes_in}}
use Rattle.lz_board.specs.{declared.view.Part.{Part}, Kept.{is_calling}, Notes.{trace_of}, Opened.{opened_by, AreOpened}, Seats.{id_of, IsNew}}
use Rattle.test_threads.{specs.NineFound.{nine_words, MayLook}, proofs.TwoSlots.{nine_opened}}

pub new-requires-4-clause-opened : goal.new-requires-4-clause-opened
new-requires-4-clause-opened c =
    let at_first = c.in-Ok.ensures in
    let with_key = c.set.ensures ∙ (λ i. set (at_first i) (Key (c.new-2.ensures i)) 9) in
    let with_link = c.set-2.ensures ∙ (λ i. set (with_key i) (Link (c.new-3.ensures i)) 8589934592) in
    let is : c.set-3.new.self ≡ nine_words = c.set-3.ensures ∙ (λ i. set (with_link i) (Head 0) 1) in
    subst AreOpened (sym is) nine_opened

pub returns-clause-here : goal.returns-clause-here
returns-clause-here c =
    let b = id_of c.in-Some.board in
    let at_first = c.in-Ok.ensures in
    let with_key = c.set.ensures ∙ (λ i. set (at_first i) (Key (c.new-2.ensures i)) 9) in
    let with_link = c.set-2.ensures ∙ (λ i. set (with_key i) (Link (c.new-3.ensures i)) 8589934592) in
    let is : c.set-3.new.self ≡ nine_words = c.set-3.ensures ∙ (λ i. set (with_link i) (Head 0) 1) in
    let first = c.in-Some.ensures.board.1 ∙ ap opened_by is in
    let popped = All-pop (IsNew b) c.in-Some.passes.items c.pop.new.self.items c.pop.result c.pop.ensures.items c.in-Some.ensures.passes.1 in
    let last = subst (λ r. IfSome r (IsNew b)) c.in-Some-pop.is popped.1 in
    record {
      sized = c.in-Some.ensures.board.0 ∙ ap sizes_in is;
      opened = first;
      pen = c.in-Some.ensures.pen.0;
      pass = last.0;
      outside = ap (λ (h : Part). h.pin % 2) last.1;
      trace = ap (trace_of b.opened) c.in-Some.ensures.pen.1 ∙ first;
    }

pub returns-clause-others : goal.returns-clause-others
returns-clause-others c =
    let b = id_of c.in-Some.board in
    let popped = All-pop (IsNew b) c.in-Some.passes.items c.pop.new.self.items c.pop.result c.pop.ensures.items c.in-Some.ensures.passes.1 in
    All-weaker (IsNew b) (MayLook b) (λ p fresh. (fresh.0, ap (λ h. is_calling b.sizes h.steps) fresh.1)) c.pop.new.self.items popped.0
