-- What a session of the one line that adds a mark leaves.
use Rattle.lz_vault.specs.declared.opening.OpenFault.TheVariants as opening
use Rattle.std.proofs.Common.{◌≡◌, ◌⊎◌, ⊎_elim, ℕ, ◌≤◌, nat_eq, List, [], ◌∷◌, ◌++◌, Option, Some, IsTrue, refl, sym, ◌∙◌, subst, arith, codes}
use Rattle.std.{proofs.lemmas.{Bool.{and_parts, cond_both, eq-eqb, Decides.{nat_tests}}, List.Folds.{list_any_at}}, specs.Fmt.{digits}}
use Rattle.std.specs.Io.KnownBytes.{Appends}
use Rattle.lz_slot.{specs.{Limits.{largest_key}, Sets.{Keys}, Bytes.{format_of}, Texts.{key_text}, declared.format.Format.{Format}}, proofs.Texts.Cuts.{Lacks}}
use Rattle.lz_slot.proofs.Texts.Spellings.{key_text_lacks, written_keys_are_spelled}
use Rattle.lz_disk.specs.{Images.{Medium, synced}, Devices.{Device}}
use Rattle.lz_vault.specs.{Stages.{Suits}, Opens.{MayOpen}, declared.opening.OpenFault.{OpenFault}}
use Rattle.lz_proto.specs.{Lines.{IsItem, Items, line, nothing, without_return}, Sessions.{Serves, session_text}, declared.request.Request.TheVariants.{Add}}
use Rattle.lz_proto.specs.declared.{reply.Reply.{Reply, TheVariants.{Yes, No, Full, Halted, Worn, OldFile}}, item.Item.{Item, TheVariants.{Asks}}}
use Rattle.lz_proto.proofs.Texts.{one_list}
use Rattle.lazyset_file_commands.specs.{Ends.{open_status}, Marks.{texts_mark}, Refusals.{RefusedOpen}, declared.status.Status.{Status}}
use Rattle.lazyset_file_commands.specs.declared.status.Status.TheVariants.{Done, Failed}
use Rattle.lazyset_set_commands.specs.{PlainReplies.{PassAnswers}, Runs.{EachHolds, RepliesOfPass}, Marks.{Leaves, mark_line, with_mark}}

-- the line of the mark of texts
texts_line : mark_line texts_mark ≡ codes "add 15:1000000000000000\n"
unfolding digits
texts_line = refl

-- a line without a carriage return
kept : (text : List ℕ) → Lacks 13 text → without_return text ≡ text
kept text lacks = grind (arith, nat_tests, cond_both, and_parts, nat_eq, list_any_at, eq-eqb)

module _ (mark : ℕ) (small : mark ≤ largest_key) where
  abbrev word : List ℕ
  word = codes "add " ++ key_text mark

  abbrev asked : List Item
  asked = Asks (Add mark) ∷ []

  -- the line asks to add the mark, and nothing else
  mark_asks : IsItem word (Asks (Add mark))
  mark_asks = (small, (key_text mark, written_keys_are_spelled mark, kept word (key_text_lacks 13 mark refl refl small)))

  mark_items : Items (mark_line mark) asked
  mark_items = line word (Asks (Add mark)) [] [] (key_text_lacks 10 mark refl refl small) mark_asks (λ is. absurd cc) nothing

  asks_once : (items : List Item) → Items (mark_line mark) items → items ≡ asked
  asks_once items its = let all = one_list (mark_line mark) in all.2 items its ∙ sym (all.2 asked mark_items)

  -- where it was answered `yes` the mark was added
  yes_adds : (F : Format) (N : ℕ) (S last : Keys) (replies : List Reply) → Serves (PassAnswers F N) S asked replies last → session_text asked replies ≡ codes "yes\n" → last ≡ with_mark mark S
  yes_adds F N S last [] served text = absurd served
  yes_adds F N S last (Yes ∷ []) served text = served.2 ∙ served.1.1
  yes_adds F N S last (Yes ∷ reply ∷ replies) served text = absurd served.2
  yes_adds F N S last (No ∷ replies) served text = absurd cc
  yes_adds F N S last (Full ∷ replies) served text = absurd cc
  yes_adds F N S last (Halted ∷ replies) served text = absurd cc
  yes_adds F N S last (Worn ∷ replies) served text = absurd cc
  yes_adds F N S last (OldFile ∷ replies) served text = absurd cc

  pub mark_added : (F : Format) (N : ℕ) (S : Keys) (disk : Medium) (asks told : List ℕ) → asks ≡ mark_line mark → told ≡ codes "yes\n"
      → RepliesOfPass F N S (Some asks) (Some []) (Some told) disk → EachHolds disk N (with_mark mark S)
  mark_added F N S disk asks told is_line is_told ran =
      let its : Items (mark_line mark) ran.items = subst (λ (t : List ℕ). Items t ran.items) (ran.known ∙ is_line) ran.its in
      let one = asks_once ran.items its in
      let served = subst (λ (l : List Item). Serves (PassAnswers F N) S l ran.replies ran.last) one ran.served in
      let written = subst (λ (l : List Item). Appends (Some []) (Some told) (session_text l ran.replies)) one ran.written in
      let text : session_text asked ran.replies ≡ codes "yes\n" = sym written ∙ is_told in
      subst (λ (T : Keys). EachHolds disk N T) (yes_adds F N S ran.last ran.replies served text) ran.held

-- an open that was refused isn't told as done
not_done : (fault : OpenFault) → Done ≡ open_status fault → ⊥
not_done opening.Device is = absurd cc
not_done opening.Memory is = absurd cc
not_done _ is = absurd cc

pub refused_undone : {D : Type 0} (device : D → Device) (status : Status) (input rest before after : Option (List ℕ)) (old new : D) → status ≡ Done → RefusedOpen device status input rest before after old new → ⊥
refused_undone device status input rest before after old new is refused = ⊎_elim (λ sent. not_done refused.fault (sym is ∙ sent.1)) (λ cut. let both : Done ≡ Failed = sym is ∙ cut.1 in absurd cc) refused.told

-- what was synced may be opened as before
pub synced_may_open : (old new : Device) → MayOpen old → new.honest ≡ old.honest → (IsTrue old.honest → (new.medium ≡ old.medium) ⊎ (new.medium ≡ synced old.medium)) → MayOpen new
synced_may_open old new may same medium honest =
    let was : IsTrue old.honest = subst IsTrue same honest in
    ⊎_elim (λ is. subst (λ (m : Medium). Suits (format_of m.seen) m) (sym is) (may was)) (λ is. subst (λ (m : Medium). Suits (format_of m.seen) m) (sym is) (may was)) (medium was)

-- one change after another
pub leaves_next : {D : Type 0} (device : D → Device) (one other : Keys → Keys) (old mid new : D) → Leaves device one old mid → Leaves device other mid new → Leaves device (λ S. other (one S)) old new
leaves_next device one other old mid new first second = record {
  honest = second.honest ∙ first.honest;
  faults = let a = first.faults in let b = second.faults in omega (arith, a, b);
  holds = λ N S honest holds. second.holds N (one S) (subst IsTrue (sym first.honest) honest) (first.holds N S honest holds);
}
