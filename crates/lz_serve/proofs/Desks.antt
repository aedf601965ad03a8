-- A desk after each step.
use Rattle.std.proofs.Common.{◌≡◌, ◌≤◌, ◌<◌, ◌+◌, ◌-◌, ◌≢◌, ◌↔◌, ℕ, All, List, [], ◌∷◌, ◌++◌, Option, Some, None, IfSome, length, map, option_map}
use Rattle.std.proofs.Common.{option_to_list, set, slice_index_or, refl, sym, ap, ◌∙◌, subst, arith, length-append, length-set}
use Rattle.std.proofs.lemmas.List.{append-nil, length-map, Elements.{All-cons, All-head, All-nil, All-set, All-tail}}
use Rattle.lz_list.specs.Traces.{Trace}
use Rattle.lz_serve.specs.{Askings.{Asked}, Clients.{Askers, HaveSeenIn, KeepsAwaited}, Desks.{AreJoined, IsCalled, IsDesk, Knows, count_of}}
use Rattle.lz_serve.proofs.Joins.{all_none, called_same, first_met, joined_answered, joined_back, joined_begun, joined_rested, joined_taken}

-- a desk, whose passes are known by what they have seen
module _ {X : Type 0} (f : X → Trace) where
  count_mapped : (o : Option X) → count_of (option_map f o) ≡ count_of o
  count_mapped None = refl
  count_mapped (Some x) = refl

  none_mapped : (o : Option X) → option_map f o ≡ None → o ≡ None
  none_mapped None is = refl
  none_mapped (Some x) is = absurd (cc)

  none_there : (o : Option X) → o ≡ None → option_map f o ≡ None
  none_there o is = ap (λ (x : Option X). option_map f x) is

  mapped_push : (xs : List X) (x : X) → map f (xs ++ x ∷ []) ≡ map f xs ++ f x ∷ []
  mapped_push [] x = refl
  mapped_push (y ∷ xs) x = ap (λ (l : List Trace). f y ∷ l) (mapped_push xs x)

  mapped_items : (ys xs : List X) (x : X) → ys ≡ xs ++ x ∷ [] → map f ys ≡ map f xs ++ f x ∷ []
  mapped_items ys xs x is = ap (λ (l : List X). map f l) is ∙ mapped_push xs x

  mapped_nil : (xs : List X) → map f (xs ++ []) ≡ map f xs ++ []
  mapped_nil [] = refl
  mapped_nil (x ∷ xs) = ap (λ (l : List Trace). f x ∷ l) (mapped_nil xs)

  mapped_split : (o : Option X) (xs ys : List X) → xs ≡ ys ++ option_to_list o → map f xs ≡ map f ys ++ option_to_list (option_map f o)
  mapped_split None xs ys is = ap (λ (l : List X). map f l) is ∙ mapped_nil ys
  mapped_split (Some x) xs ys is = mapped_items xs ys x is

  same_mapped : (o new : Option X) → IfSome o (λ m. new ≡ Some m) → IfSome (option_map f o) (λ met. option_map f new ≡ Some met)
  same_mapped None new same = tt
  same_mapped (Some x) new same = ap (λ (y : Option X). option_map f y) same

  -- the last of the free passes knows what the clients have seen
  pub know_last : (a : Askers) (meeting : Option Trace) (free rest : List X) (last : X) → free ≡ rest ++ last ∷ [] → All (Knows a meeting) (map f free) → Knows a meeting (f last)
  know_last a meeting free rest last split know = last_one rest (subst (λ (l : List X). All (Knows a meeting) (map f l)) split know)
    where
      last_one : (xs : List X) → All (Knows a meeting) (map f (xs ++ last ∷ [])) → Knows a meeting (f last)
      last_one [] every = All-head (Knows a meeting) (f last) [] every
      last_one (x ∷ xs) every = last_one xs (All-tail (Knows a meeting) (f x) (map f (xs ++ last ∷ [])) every)

  -- a pass that has met the other has seen the same
  pub alike_seen : (b : Askers) (o : Option X) (known : Trace) → IfSome o (λ x. f x ≡ known) → HaveSeenIn b known → IfSome o (λ x. HaveSeenIn b (f x))
  alike_seen b None known alike seen = tt
  alike_seen b (Some x) known alike seen = subst (HaveSeenIn b) (sym alike) seen

  count_same : (old new : Option X) → (new ≡ None → old ≡ None) → (old ≡ None → new ≡ None) → count_of new ≡ count_of old
  count_same None None one two = refl
  count_same None (Some x) one two = let is = two refl in absurd (cc)
  count_same (Some y) None one two = let is = one refl in absurd (cc)
  count_same (Some y) (Some x) one two = refl

  -- the pass that was found has seen what the clients have
  pub found_seen : (a : Askers) (given : ℕ) (old new : Option X) (x : X) (calls : List Asked) (free rest : List X) → AreJoined a given (option_map f old) calls (map f free) → IfSome old (λ m. new ≡ Some m)
      → (old ≡ None → free ≡ rest ++ option_to_list new) → new ≡ Some x → HaveSeenIn a (f x)
  found_seen a given old new x calls free rest was same first is =
      subst (λ (o : Option X). IfSome (option_map f o) (HaveSeenIn a)) is
      (first_met a given (option_map f old) (option_map f new) calls (map f free) (map f rest) was (same_mapped old new same) (λ empty. mapped_split new free rest (first (none_mapped old empty))))

  -- the pass that meets the others was taken out, and is found again or another one in its place
  same_taken : (mid old new : Option X) → mid ≡ old → IfSome mid (λ m. new ≡ Some m) → IfSome old (λ m. new ≡ Some m)
  same_taken mid old new taken same = subst (λ (o : Option X). IfSome o (λ m. new ≡ Some m)) taken same

  pub taken_seen : (a : Askers) (given : ℕ) (mid old new : Option X) (x : X) (calls : List Asked) (free rest : List X) → mid ≡ old → AreJoined a given (option_map f old) calls (map f free) → IfSome mid (λ m. new ≡ Some m)
      → (mid ≡ None → free ≡ rest ++ option_to_list new) → new ≡ Some x → HaveSeenIn a (f x)
  taken_seen a given mid old new x calls free rest taken was same first is = found_seen a given old new x calls free rest was (same_taken mid old new taken same) (λ empty. first (taken ∙ empty)) is

  pub count_taken : (mid old new : Option X) (n_free n_rest : ℕ) → mid ≡ old → n_rest + count_of new ≡ n_free + count_of mid → n_rest + count_of new ≡ n_free + count_of old
  count_taken mid old new n_free n_rest taken count = count ∙ ap (λ (o : Option X). n_free + count_of o) taken

  desk_taken : (given most room room_calls more : ℕ) (a : Askers) (old new : Option X) (calls : List Asked) (free rest pushed : List X) (n_free n_rest n_pushed : ℕ) (last : X)
      → IsDesk given most (n_free + count_of old) room room_calls a (option_map f old) calls (map f free) → given < most → n_free + count_of old ≡ given → n_free ≡ length free
      → IfSome old (λ m. new ≡ Some m) → (old ≡ None → free ≡ rest ++ option_to_list new) → (new ≡ None → (old ≡ None) × (n_free ≡ 0)) → n_rest + count_of new ≡ n_free + count_of old
      → pushed ≡ rest ++ last ∷ [] → n_pushed ≡ n_rest + 1 → room ≤ more → IsDesk (given + 1) most (n_pushed + count_of new) more room_calls a (option_map f new) calls (map f pushed)
  desk_taken given most room room_calls more a old new calls free rest pushed n_free n_rest n_pushed last was low rests long same first none count items pushes grows =
      let counted = was.count in
      let spare = was.spare_free in
      let no_call : length calls ≡ 0 = omega (arith, counted, rests) in
      let mapped = count_mapped old in
      let long_map = length-map free f in
      let joined = joined_taken a given (option_map f old) (option_map f new) calls (map f free) (map f rest) was.joined (same_mapped old new same) (λ empty. mapped_split new free rest (first (none_mapped old empty))) (f last) no_call
      (omega (arith, mapped, long_map, rests, long)) (λ empty. let it = none (none_mapped new empty) in let zero_free = it.1 in (none_there old it.0, omega (arith, zero_free, long, long_map))) in
      record {
        fit = omega (arith, low);
        count = omega (arith, pushes, count, rests, no_call);
        spare_free = omega (arith, spare, grows);
        spare_calls = was.spare_calls;
        joined = subst (AreJoined a (given + 1) (option_map f new) calls) (sym (mapped_items pushed rest last items)) joined;
      }

  pub desk_given : (given most room room_calls more : ℕ) (a : Askers) (mid old new : Option X) (calls : List Asked) (free rest pushed : List X) (n_free n_rest n_pushed : ℕ) (last : X) → mid ≡ old
      → IsDesk given most (n_free + count_of old) room room_calls a (option_map f old) calls (map f free) → given < most → n_free + count_of old ≡ given → n_free ≡ length free
      → IfSome mid (λ m. new ≡ Some m) → (mid ≡ None → free ≡ rest ++ option_to_list new) → (new ≡ None → (mid ≡ None) × (n_free ≡ 0)) → n_rest + count_of new ≡ n_free + count_of mid
      → pushed ≡ rest ++ last ∷ [] → n_pushed ≡ n_rest + 1 → room ≤ more → IsDesk (given + 1) most (n_pushed + count_of new) more room_calls a (option_map f new) calls (map f pushed)
  desk_given given most room room_calls more a mid old new calls free rest pushed n_free n_rest n_pushed last taken was low rests long same first none count items pushes grows =
      desk_taken given most room room_calls more a old new calls free rest pushed n_free n_rest n_pushed last was low rests long (same_taken mid old new taken same) (λ empty. first (taken ∙ empty))
      (λ empty. let it = none empty in (sym taken ∙ it.0, it.1)) (count_taken mid old new n_free n_rest taken count) items pushes grows

  module _ (given most room room_calls : ℕ) (a b : Askers) (old new : Option X) (calls : List Asked) (free : List X) (n_free : ℕ) (was : IsDesk given most (n_free + count_of old) room room_calls a (option_map f old) calls (map f free))
      (keeps : KeepsAwaited a b) (met : IfSome new (λ x. HaveSeenIn b (f x))) (none : (new ≡ None) ↔ (old ≡ None)) where
    met_there : (o : Option X) → IfSome o (λ x. HaveSeenIn b (f x)) → IfSome (option_map f o) (HaveSeenIn b)
    met_there None is = tt
    met_there (Some x) is = is

    none_before : option_map f new ≡ None → option_map f old ≡ None
    none_before empty = none_there old (none.0 (none_mapped new empty))

    -- one of the calls is another now
    pub desk_answered : (at : ℕ) (asked : Asked) → at < length calls → IsCalled b (option_map f new) asked → IsDesk given most (n_free + count_of new) room room_calls b (option_map f new) (set calls at asked) (map f free)
    desk_answered at asked within is =
        let counted = was.count in
        let same = length-set calls at asked in
        let many = count_same old new none.0 none.1 in
        record {
          fit = was.fit;
          count = omega (arith, counted, same, many);
          spare_free = was.spare_free;
          spare_calls = was.spare_calls;
          joined = joined_answered a b (option_map f old) (option_map f new) keeps (met_there new met) given calls (map f free) (λ nothing. omega (arith, nothing, counted, within)) none_before was.joined at asked within is;
        }

    -- one more call, by a pass that was free
    pub desk_begun : (more : ℕ) (rest : List X) (last : X) (n_rest : ℕ) (asked : Asked) (now : List Asked) → free ≡ rest ++ last ∷ [] → n_rest + 1 ≡ n_free → now ≡ calls ++ asked ∷ [] → most ≤ more → IsCalled b (option_map f new) asked
        → (left : ℕ) → most ≤ left → IsDesk given most (n_rest + count_of new) left more b (option_map f new) now (map f rest)
    desk_begun more rest last n_rest asked now split fewer items spare is left spare_left =
        let counted = was.count in
        let same = ap (λ (l : List Asked). length l) items ∙ length-append calls (asked ∷ []) in
        let many = count_same old new none.0 none.1 in
        record {
          fit = was.fit;
          count = omega (arith, counted, same, many, fewer);
          spare_free = spare_left;
          spare_calls = spare;
          joined = subst (λ (l : List Asked). AreJoined b given (option_map f new) l (map f rest)) (sym items)
              (joined_begun a b (option_map f old) (option_map f new) keeps (met_there new met) given calls (map f free) (λ nothing. omega (arith, nothing, counted, fewer)) none_before was.joined (map f rest) (f last) asked (mapped_items free rest last split) is);
        }

    -- none began, and the pass is free as before
    pub desk_back : (more : ℕ) (rest pushed : List X) (last back : X) (n_rest n_pushed : ℕ) → free ≡ rest ++ last ∷ [] → n_rest + 1 ≡ n_free → pushed ≡ rest ++ back ∷ [] → n_pushed ≡ n_rest + 1 → most ≤ more → Knows b (option_map f new) (f back)
        → IsDesk given most (n_pushed + count_of new) more room_calls b (option_map f new) calls (map f pushed)
    desk_back more rest pushed last back n_rest n_pushed split fewer items pushes spare knows =
        let counted = was.count in
        let many = count_same old new none.0 none.1 in
        record {
          fit = was.fit;
          count = omega (arith, counted, many, fewer, pushes);
          spare_free = spare;
          spare_calls = was.spare_calls;
          joined = subst (AreJoined b given (option_map f new) calls) (sym (mapped_items pushed rest back items))
              (joined_back a b (option_map f old) (option_map f new) keeps (met_there new met) given calls (map f free) (λ nothing. omega (arith, nothing, counted, fewer)) none_before was.joined (map f rest) (f last) (f back) (mapped_items free rest last split) knows);
        }

    -- a call was answered, and its pass is free
    pub desk_rested : (more left_room at n : ℕ) (asked : Asked) (left : List Asked) (pushed : List X) (back : X) (n_pushed : ℕ) → at < n → n ≡ length calls → length left + 1 ≡ n
        → ((d : Asked) → at + 1 < n → slice_index_or left at d ≡ slice_index_or (set calls at asked) (n - 1) d) × ((k : ℕ) (d : Asked) → k ≢ at → k + 1 < n → slice_index_or left k d ≡ slice_index_or (set calls at asked) k d)
        → pushed ≡ free ++ back ∷ [] → n_pushed ≡ n_free + 1 → most ≤ more → most ≤ left_room → Knows b (option_map f new) (f back) → IsDesk given most (n_pushed + count_of new) more left_room b (option_map f new) left (map f pushed)
    desk_rested more left_room at n asked left pushed back n_pushed within same fewer stands items pushes spare spare_left knows =
        let counted = was.count in
        let many = count_same old new none.0 none.1 in
        record {
          fit = was.fit;
          count = omega (arith, counted, many, fewer, pushes, same);
          spare_free = spare;
          spare_calls = spare_left;
          joined = subst (AreJoined b given (option_map f new) left) (sym (mapped_items pushed free back items))
              (joined_rested a b (option_map f old) (option_map f new) keeps (met_there new met) given calls (map f free) (λ nothing. omega (arith, nothing, counted, within, same)) none_before was.joined left at n asked (f back) within same fewer stands knows);
        }

  -- the last answers were told by this pass, which meets the others from now on
  pub desk_last : (given most room here room_calls : ℕ) (a b : Askers) (old new : Option X) (calls : List Asked) (free rest : List X) (n_free n_rest : ℕ) (it last : X)
      → IsDesk given most (n_free + count_of old) room room_calls a (option_map f old) calls (map f free) → n_free + count_of old ≡ given → new ≡ Some it → n_rest + count_of new ≡ n_free + count_of old → here ≡ room → HaveSeenIn b (f last)
      → IsDesk given most (n_rest + 1) here room_calls b (Some (f last)) calls (map f rest)
  desk_last given most room here room_calls a b old new calls free rest n_free n_rest it last was rests is count same seen =
      let one = ap (λ (o : Option X). count_of o) is in
      let counted = was.count in
      let spare = was.spare_free in
      let no_call : length calls ≡ 0 = omega (arith, counted, rests) in
      record {
        fit = was.fit;
        count = omega (arith, counted, count, one);
        spare_free = omega (arith, spare, same);
        spare_calls = was.spare_calls;
        joined = record {
          called = all_none (IsCalled b (Some (f last))) calls no_call;
          know = each rest;
          met = seen;
          alone = λ empty. absurd (cc);
          unseen = λ nothing. absurd (omega (arith, nothing, rests, count, one));
        };
      }
    where
      each : (xs : List X) → All (Knows b (Some (f last))) (map f xs)
      each [] = All-nil (Knows b (Some (f last)))
      each (x ∷ xs) = All-cons (Knows b (Some (f last))) (f x) (map f xs) seen (each xs)

  -- there was no pass that was free
  pub desk_left : (given most room here room_calls : ℕ) (a : Askers) (mid old it gone : Option X) (calls : List Asked) (free rest : List X) (n_free n_rest : ℕ) → IsDesk given most (n_free + count_of old) room room_calls a (option_map f old) calls (map f free)
      → mid ≡ old → it ≡ None → (it ≡ None → (mid ≡ None) × (n_free ≡ 0)) → gone ≡ None → (mid ≡ None → free ≡ rest ++ option_to_list it) → n_rest + count_of it ≡ n_free + count_of mid → here ≡ room → IsDesk given most (n_rest + count_of gone) here room_calls a (option_map f gone) calls (map f rest)
  desk_left given most room here room_calls a mid old it gone calls free rest n_free n_rest was taken nothing none away split count same = grind (arith, option_to_list, append-nil, option_map)

-- a call is played on, and answers the same question
pub desk_played : (given most idle room room_calls : ℕ) (a : Askers) (meeting : Option Trace) (calls : List Asked) (free : List Trace) (at : ℕ) (old new : Asked) → IsDesk given most idle room room_calls a meeting calls free → at < length calls
    → old ≡ slice_index_or calls at old → new.question ≡ old.question → new.token ≡ old.token → IsDesk given most idle room room_calls a meeting (set calls at new) free
desk_played given most idle room room_calls a meeting calls free at old new was within here question token =
    let counted = was.count in
    let same = length-set calls at new in
    let mine : IsCalled a meeting old = subst (IsCalled a meeting) (sym here) (was.joined.called at old within) in
    record {
      fit = was.fit;
      count = omega (arith, counted, same);
      spare_free = was.spare_free;
      spare_calls = was.spare_calls;
      joined = record {
        called = All-set (IsCalled a meeting) calls at new (called_same a meeting old new question token mine) was.joined.called;
        know = was.joined.know;
        met = was.joined.met;
        alone = λ empty. let few = was.joined.alone empty in omega (arith, few, same);
        unseen = was.joined.unseen;
      };
    }
