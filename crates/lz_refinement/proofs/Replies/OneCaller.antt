-- In a set of one pass each answer is that of the plain set: it is that of its key, and no other key was changed.
use Rattle.std.proofs.{Common.{arith, ◌≡◌, inl, inr, ℕ, List, [], ◌∷◌, sym, ◌∙◌}, lemmas.Bool.Decides.{nat_tests}}
use Rattle.lz_refinement.proofs.{Vocabulary.{Command, Format, Keys, key_of, Trace, Lawful, Reply, Shape, Note, shape_of_sizes, Changes}, Replies.FreeSlot.{room}}
use Rattle.lz_refinement.proofs.Replies.{OneKey.{changed_of, before_linking, one_key}, KeyByKey.{leaves, unmoved, whole}, LoneClient.{no_other_key}}
use Rattle.lz_refinement.{proofs.Replies.SeenMore.{own_of_call}, specs.{OnePass.{AreOwn, OnlyOwn}, Answers.{Added, MayHaveChanged, Promises}}}
use Rattle.lz_refinement.specs.{OneCaller.{keys_in, HasRoom, PlainRow, OneCallerIsPlain}, KeyByKey.{AreFor, OnlyOwnOf, KeyRow, SameBut}}
use Rattle.lz_slot.specs.declared.command.Command.TheVariants.{Add}
use Rattle.lz_list.specs.declared.publishing.Publishing.TheVariants.{Linked as linked, Marked as marked, Unlinked as unlinked}
use Rattle.lz_list.proofs.Traces.Hindsight.{lawful_begins}
use Rattle.lz_machine.specs.declared.event.Reply.TheVariants.{Yes, Full, Worn, OldFile, Halted, Device}

-- what was changed for the pass alone was so of each key
own_of : (p k : ℕ) (P : Trace) → AreOwn p P → AreFor (λ q. q ≡ p) k P
own_of p k [] are = tt
own_of p k (linked j s q ∷ P) are = (λ same. are.0, own_of p k P are.1)
own_of p k (marked j s q ∷ P) are = (λ same. are.0, own_of p k P are.1)
own_of p k (unlinked j s q ∷ P) are = own_of p k P are.1
own_of p k (e ∷ P) are = own_of p k P are

module _ (p : ℕ) (P Q : Trace) (only : OnlyOwn p P Q) where
  own_key : (k : ℕ) → OnlyOwnOf p k P Q
  own_key k = record { since = only.since; goes_on = only.goes_on; all = own_of p k only.since only.own }

  others_stay : (c : Command) (own : Trace) → Changes p P Q own → MayHaveChanged p c own → SameBut (key_of c) (keys_in P) (keys_in Q)
  others_stay c own made may j other = changed_of p j P Q own (own_key j) made ∙ leaves j own P (no_other_key p c own j (λ same. other (sym same)) may)

  had_room : (buckets slots k : ℕ) → Lawful buckets slots Q → Added p k P Q → HasRoom slots (keys_in P)
  had_room buckets slots k law h =
      let before = lawful_begins buckets slots (linked k h.slot p ∷ h.earlier) Q h.upto law in
      room buckets slots k h.slot p h.earlier before (keys_in P) (λ q. sym (before_linking p q P Q (own_key q) k h))

-- the row of its key, where all other keys are as they were
module _ (shape : Shape) (p : ℕ) (F : Format) (pin : ℕ) (new : List Note) (P Q : Trace) (only : OnlyOwn p P Q) (law : Lawful shape.buckets shape.slots Q) (one : shape.passes ≡ 1) where
  abbrev S : Keys
  S = keys_in P

  abbrev T : Keys
  T = keys_in Q

  plain_row : (c : Command) (told : Reply) → Promises shape p F c told pin new P Q → KeyRow c told (S (key_of c)) (T (key_of c)) → SameBut (key_of c) S T → PlainRow shape.slots c told S T
  plain_row (Add k) Yes h row others = (row.0, had_room p P Q only shape.buckets shape.slots k law h, whole (Add k) S T row.1 others)
  plain_row (Add k) (Full counts) h row others = grind (arith, nat_tests, unmoved)
  plain_row c Worn h row others = unmoved (key_of c) S T row others
  plain_row c OldFile h row others = unmoved (key_of c) S T row others
  plain_row c Halted h (inl is) others = inl (unmoved (key_of c) S T is others)
  plain_row c Halted h (inr is) others = inr (whole c S T is others)
  plain_row c Device h (inl is) others = inl (unmoved (key_of c) S T is others)
  plain_row c Device h (inr is) others = inr (whole c S T is others)
  plain_row _ (Full counts) h row others = absurd row
  plain_row c _ h row others = (row.0, whole c S T row.1 others)

pub one_caller : OneCallerIsPlain
one_caller F c told before after answers one =
    let p = before.number in
    let only = answers.alone one in
    let own = own_of_call F c told before after answers in
    let key = one_key F c told before after answers (own_key p before.known after.known only (key_of c)) in
    record {
      old = key.old;
      row = plain_row (shape_of_sizes before.sizes) p F after.pin answers.new before.known after.known only answers.lawful one c told answers.promises key.row (others_stay p before.known after.known only c own.own own.changes own.may);
    }
