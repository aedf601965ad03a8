use Rattle.std.proofs.Common.{◌≡◌, ◌∙◌, ◌++◌, IfSome, OnOk, false, subst, sym, ap}
use Rattle.std.specs.List.{list_any}
use Rattle.lz_resp.specs.Replies.{text_of}
use Rattle.lz_forget.{specs.Answers.{is_none, replies_in}, proofs.Steps.{told_text}}
use Rattle.lz_forget.proofs.answers.push_text.Goals as goal

pub returns-in-Some-2 : goal.returns-in-Some-2
returns-in-Some-2 c =
    let answers = c.args.answers.now in
    let both = subst (λ found. IfSome found (λ replies. (list_any is_none answers ≡ false) × (replies.items ≡ replies_in answers))) c.in-Some-2.is c.in_ok-replies.ensures.some in
    let told = ap (text_of c.args.form) (c.as_slice.ensures.value ∙ both.1) ∙ sym (told_text c.args.form answers both.0) in
    subst (λ text. OnOk c.push_reply-in-Some-2.result (c.push_reply-in-Some-2.new.text.items ≡ c.args.text.now.items ++ text)) told c.push_reply-in-Some-2.ensures
