use Rattle.lz_resp.proofs.reply.plain_text.Goals as goal
use Rattle.std.{proofs.Common.{◌≡◌, [], ◌∷◌, codes, true, refl, sym, ap, ◌∙◌}, specs.Fmt.{digits}}
use Rattle.lz_proto.specs.declared.reply.Reply.{Reply, TheVariants.{Yes, No}}
use Rattle.lz_resp.specs.{Replies.{is_sum, text_of}, declared.form.Form.{Form, TheVariants.{Each, Stored}}}

one_done : (form : Form) → is_sum form ≡ true → text_of form (Yes ∷ []) ≡ codes ":1\r\n"
unfolding digits
one_done Each h = absurd (cc)
one_done Stored h = absurd (cc)
one_done _ h = refl

none_done : (form : Form) → is_sum form ≡ true → text_of form (No ∷ []) ≡ codes ":0\r\n"
unfolding digits
none_done Each h = absurd (cc)
none_done Stored h = absurd (cc)
none_done _ h = refl

pub returns-in-Yes : goal.returns-in-Yes
returns-in-Yes c = sym (ap (λ (r : Reply). text_of c.args.form (r ∷ [])) c.in-Yes.is ∙ one_done c.args.form (sym c.if-is_sum.ensures))

pub returns-in-No : goal.returns-in-No
returns-in-No c = sym (ap (λ (r : Reply). text_of c.args.form (r ∷ [])) c.in-No.is ∙ none_done c.args.form (sym c.if-is_sum-2.ensures))
