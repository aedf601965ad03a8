-- Lines under way: the passes to which they were put, and the grants that their replies have.
use Rattle.std.proofs.Common.{◌≡◌, ◌≢◌, ◌<◌, ◌≤◌, ◌+◌, ◌-◌, ℕ, zero, suc, All, List, [], ◌∷◌, ◌++◌, take, drop, length, Option, Some, None, IfSome}
use Rattle.std.proofs.{Common.{option_and_then, option_map, slice_get, slice_set, refl, sym, ap, subst, ◌∙◌, arith, append_assoc}, lemmas.List.{append-nil}}
use Rattle.std.{proofs.lemmas.List.Elements.{All-head, All-push, All-set, All-tail, All-weaker}, specs.declared.snapshot.Snapshot.{Snapshot}}
use Rattle.lz_list.{specs.Traces.{Trace, Begins}, proofs.Traces.WalkEnd.{begins_before}}
use Rattle.lz_board.specs.{declared.pass.Pass.{Pass}, Seats.{part}}
use Rattle.lz_proto.specs.declared.{request.Request.{Request}, reply.Reply.{Reply}}
use Rattle.lz_serve.specs.{declared.line.Line.{Line}, Clients.{passes_of}, Grants.{Grant, IsLater, IsOfLine, key_asked}}
use Rattle.lz_serve.specs.Lines.{AreBefore, AreEarned, IsBefore, IsEarned, IsFree, IsOther, IsPast, asked_by, awaited, replied, replies_of}
use Rattle.lz_serve.specs.Conversations.{AreFor, replies_in}

-- what is so of all is so of the one that stands here
pub all_there : (P : Line → Type 0) (under : List Line) (at : ℕ) (line : Line) → slice_get under at ≡ Some line → All P under → P line
all_there P [] at line is all = absurd (cc)
all_there P (first ∷ under) zero line is all = let same : first ≡ line = cc in subst P same (All-head P first under all)
all_there P (first ∷ under) (suc at) line is all = all_there P under at line is (All-tail P first under all)

-- the passes to which lines under way were put

pub puts_after : (count : ℕ) (old new : List (Snapshot Pass)) → new ≡ drop count old → passes_of new ≡ drop count (passes_of old)
puts_after count old new is = ap passes_of is ∙ of_rest count old
  where
    of_rest : (n : ℕ) (all : List (Snapshot Pass)) → passes_of (drop n all) ≡ drop n (passes_of all)
    of_rest zero all = refl
    of_rest (suc n) [] = refl
    of_rest (suc n) (s ∷ all) = of_rest n all

pub puts_more : (old new : List (Snapshot Pass)) (last : Snapshot Pass) → new ≡ old ++ last ∷ [] → passes_of new ≡ passes_of old ++ last.value ∷ []
puts_more old new last is = ap passes_of is ∙ all old
  where
    all : (some : List (Snapshot Pass)) → passes_of (some ++ last ∷ []) ≡ passes_of some ++ last.value ∷ []
    all [] = refl
    all (s ∷ some) = ap (λ (l : List Pass). s.value ∷ l) (all some)

pub get_more : (xs ys : List Pass) (at : ℕ) (x : Pass) → slice_get xs at ≡ Some x → slice_get (xs ++ ys) at ≡ Some x
get_more [] ys at x is = absurd (cc)
get_more (y ∷ xs) ys zero x is = is
get_more (y ∷ xs) ys (suc at) x is = get_more xs ys at x is

pub get_last : (xs : List Pass) (at : ℕ) (x : Pass) → at ≡ length xs → slice_get (xs ++ x ∷ []) at ≡ Some x
get_last [] at x is = subst (λ (n : ℕ). slice_get (x ∷ []) n ≡ Some x) (sym is) refl
get_last (y ∷ xs) zero x is = absurd (omega (arith, is))
get_last (y ∷ xs) (suc at) x is = get_last xs at x (omega (arith, is))

-- more come behind them
pub get_before : {X : Type 0} (xs ys : List X) (at : ℕ) → at < length xs → slice_get (xs ++ ys) at ≡ slice_get xs at
get_before [] ys at low = absurd (omega (arith, low))
get_before (x ∷ xs) ys zero low = refl
get_before (x ∷ xs) ys (suc at) low = get_before xs ys at (omega (arith, low))

-- a line that has its reply awaits none
pub noted_heard : (under : List Line) (at : ℕ) (request other : Request) (reply : Reply) → slice_get (slice_set under at (replied request reply)) at ≡ Some (awaited other) → ⊥
noted_heard [] at request other reply is = absurd (cc)
noted_heard (line ∷ under) zero request other reply is = let same : replied request reply ≡ awaited other = cc in let none : Some reply ≡ None = ap (λ (l : Line). l.reply) same in absurd (cc)
noted_heard (line ∷ under) (suc at) request other reply is = noted_heard under at request other reply is

-- the first ones are gone
pub get_rest : {X : Type 0} (count at : ℕ) (xs : List X) → slice_get (drop count xs) at ≡ slice_get xs (count + at)
get_rest zero at xs = let same : at ≡ zero + at = omega arith in ap (λ (n : ℕ). slice_get xs n) same
get_rest (suc count) at [] = refl
get_rest (suc count) at (x ∷ xs) = let same : suc (count + at) ≡ suc count + at = omega arith in get_rest count at xs ∙ ap (λ (n : ℕ). slice_get (x ∷ xs) n) same

-- grants that lines under way come after

-- one more line is put
past_more : (under : List Line) (puts : List Pass) (line : Line) (put : Pass) (e : Grant) → (key_asked e.question.request ≡ key_asked line.request → Begins (part e.after).known (part put).known) → IsPast under puts e
    → IsPast (under ++ line ∷ []) (puts ++ put ∷ []) e
past_more [] [] line put e here past = (here, tt)
past_more [] (p ∷ puts) line put e here past = absurd past
past_more (first ∷ under) [] line put e here past = absurd past
past_more (first ∷ under) (p ∷ puts) line put e here past = (past.0, past_more under puts line put e here past.1)

-- one has its reply
past_noted : (under : List Line) (puts : List Pass) (at : ℕ) (request : Request) (reply : Reply) (e : Grant) → slice_get under at ≡ Some (awaited request) → IsPast under puts e → IsPast (slice_set under at (replied request reply)) puts e
past_noted [] puts at request reply e is past = past
past_noted (line ∷ under) [] at request reply e is past = absurd past
past_noted (line ∷ under) (put ∷ puts) zero request reply e is past = grind arith
past_noted (line ∷ under) (put ∷ puts) (suc at) request reply e is past = (past.0, past_noted under puts at request reply e is past.1)

module _ (P : List Grant → Type 0) (connection : ℕ) where
  module _ (seen : Trace) where
    pub as_many : (told : ℕ) (under : List Line) (puts : List Pass) → AreEarned P seen connection told under puts → length puts ≡ length under
    as_many told [] [] are = refl
    as_many told [] (put ∷ puts) are = absurd are
    as_many told (line ∷ under) [] are = absurd are
    as_many told (line ∷ under) (put ∷ puts) are = ap suc (as_many (suc told) under puts are.2)

    -- a grant with another key than any of these
    past_of_others : (told : ℕ) (under : List Line) (puts : List Pass) (request : Request) (e : Grant) → key_asked e.question.request ≡ key_asked request → IsOther request under → AreEarned P seen connection told under puts → IsPast under puts e
    past_of_others told [] [] request e key other are = tt
    past_of_others told [] (put ∷ puts) request e key other are = absurd are
    past_of_others told (line ∷ under) [] request e key other are = absurd are
    past_of_others told (line ∷ under) (put ∷ puts) request e key other are = (
      λ same. absurd (All-head (λ (l : Line). key_asked l.request ≢ key_asked request) line under other (sym same ∙ key)),
      past_of_others (suc told) under puts request e key (All-tail (λ (l : Line). key_asked l.request ≢ key_asked request) line under other) are.2,
    )

    -- one more is handed out
    earned_put : (number : ℕ) (line : Line) (reply : Reply) (put : Pass) (under : List Line) (puts : List Pass) (request : Request) (last : Pass) → Begins seen (part last).known
        → IsEarned P seen connection number line.request reply put under puts → IsEarned P seen connection number line.request reply put (under ++ awaited request ∷ []) (puts ++ last ∷ [])
    earned_put number line reply put under puts request last all is = grind (arith, past_more, begins_before)

    earned_first : (number : ℕ) (line : Line) (put : Pass) (under : List Line) (puts : List Pass) (request : Request) (last : Pass) (reply : Option Reply) → Begins seen (part last).known
        → IfSome reply (λ r. IsEarned P seen connection number line.request r put under puts) → IfSome reply (λ r. IsEarned P seen connection number line.request r put (under ++ awaited request ∷ []) (puts ++ last ∷ []))
    earned_first number line put under puts request last None all is = tt
    earned_first number line put under puts request last (Some reply) all is = earned_put number line reply put under puts request last all is

    pub earned_more : (told : ℕ) (under : List Line) (puts : List Pass) (request : Request) (put : Pass) → IsFree under (key_asked request) → Begins seen (part put).known → AreEarned P seen connection told under puts
        → AreEarned P seen connection told (under ++ awaited request ∷ []) (puts ++ put ∷ [])
    earned_more told [] [] request put free all are = (tt, (λ none k d low. absurd (omega (arith, low))), tt)
    earned_more told [] (p ∷ puts) request put free all are = absurd are
    earned_more told (line ∷ under) [] request put free all are = absurd are
    earned_more told (line ∷ under) (p ∷ puts) request put free all are = (
      earned_first (suc told) line p under puts request put line.reply all are.0,
      λ none.
          All-push (λ (l : Line). key_asked l.request ≢ key_asked line.request) under (awaited request) (are.1 none)
          (λ same. All-head (λ (l : Line). l.reply ≡ None → key_asked l.request ≢ key_asked request) line under free none (sym same)),
      earned_more (suc told) under puts request put (All-tail (λ (l : Line). l.reply ≡ None → key_asked l.request ≢ key_asked request) line under free) all are.2,
    )

    -- one has its reply
    earned_beside : (number : ℕ) (line : Line) (put : Pass) (under : List Line) (puts : List Pass) (at : ℕ) (request : Request) (now : Reply) (reply : Option Reply) → slice_get under at ≡ Some (awaited request)
        → IfSome reply (λ r. IsEarned P seen connection number line.request r put under puts) → IfSome reply (λ r. IsEarned P seen connection number line.request r put (slice_set under at (replied request now)) puts)
    earned_beside number line put under puts at request now None is earned = tt
    earned_beside number line put under puts at request now (Some reply) is earned = grind (arith, past_noted)

    module _ (request : Request) (reply : Reply) (g : Grant) (so : Begins (part g.after).known seen) (promised : (grants : List Grant) → P grants → IsLater grants g → P (grants ++ g ∷ [])) where
      here : (number : ℕ) (told : ℕ) (line : Line) (put : Pass) (under : List Line) (puts : List Pass) → line ≡ awaited request → put ≡ g.question.before → IsOfLine connection number request reply g
          → (line.reply ≡ None → IsOther line.request under) → AreEarned P seen connection told under puts → IsEarned P seen connection number request reply put under puts
      here number told line put under puts is to of first are =
          let other : IsOther request under = subst (λ (l : Line). IsOther l.request under) is (first (ap (λ (l : Line). l.reply) is)) in
          record { grant = g; of_line = of; put_so = sym to; seen_so = so; past = past_of_others told under puts request g (ap key_asked of.of_request) other are; promised = promised }

      earned_at : (told at number : ℕ) (under : List Line) (puts : List Pass) → number ≡ told + suc at → IsOfLine connection number request reply g → slice_get under at ≡ Some (awaited request) → slice_get puts at ≡ Some g.question.before
          → AreEarned P seen connection told under puts → AreEarned P seen connection told (slice_set under at (replied request reply)) puts
      earned_at told at number [] puts is of stands to are = are
      earned_at told at number (line ∷ under) [] is of stands to are = absurd are
      earned_at told zero number (line ∷ under) (put ∷ puts) is of stands to are = grind (arith, here)
      earned_at told (suc at) number (line ∷ under) (put ∷ puts) is of stands to are =
          let next : number ≡ suc told + suc at = omega (arith, is) in (
            earned_beside (suc told) line put under puts at request reply line.reply stands are.0,
            (λ none.
                let others = are.1 none in
                All-set (λ (l : Line). key_asked l.request ≢ key_asked line.request) under at (replied request reply) (all_there (λ (l : Line). key_asked l.request ≢ key_asked line.request) under at (awaited request) stands others) others),
            earned_at (suc told) at number under puts next of stands to are.2,
          )

      pub earned_there : (told number : ℕ) (under : List Line) (puts : List Pass) → told < number → IsOfLine connection number request reply g → slice_get under (number - suc told) ≡ Some (awaited request)
          → slice_get puts (number - suc told) ≡ Some g.question.before → AreEarned P seen connection told under puts → AreEarned P seen connection told (slice_set under (number - suc told) (replied request reply)) puts
      earned_there told number under puts less of stands to are = earned_at told (number - suc told) number under puts (omega (arith, less)) of stands to are

    -- the first ones were told
    pub earned_after : (count told : ℕ) (under : List Line) (puts : List Pass) → AreEarned P seen connection told under puts → AreEarned P seen connection (told + count) (drop count under) (drop count puts)
    earned_after zero told under puts are = subst (λ (n : ℕ). AreEarned P seen connection n under puts) (omega arith) are
    earned_after (suc count) told [] [] are = tt
    earned_after (suc count) told [] (put ∷ puts) are = absurd are
    earned_after (suc count) told (line ∷ under) [] are = absurd are
    earned_after (suc count) told (line ∷ under) (put ∷ puts) are =
        subst (λ (n : ℕ). AreEarned P seen connection n (drop count under) (drop count puts)) (omega arith) (earned_after count (suc told) under puts are.2)

    -- these are the same lines
    pub earned_same : (told same : ℕ) (under those : List Line) (puts its : List Pass) → same ≡ told → those ≡ under → its ≡ puts → AreEarned P seen connection told under puts → AreEarned P seen connection same those its
    earned_same told same under those puts its n is to are = grind arith

  -- nothing is under way
  pub none_earned : (seen : Trace) (told : ℕ) (under : List Line) (puts : List Pass) → under ≡ [] → puts ≡ [] → AreEarned P seen connection told under puts
  none_earned seen told under puts none no_put = subst (λ (l : List Line). AreEarned P seen connection told l puts) (sym none) (subst (λ (l : List Pass). AreEarned P seen connection told [] l) (sym no_put) tt)

  -- the client has seen more
  earned_now : (old new : Trace) (number : ℕ) (line : Line) (put : Pass) (under : List Line) (puts : List Pass) (reply : Option Reply) → Begins old new
      → IfSome reply (λ r. IsEarned P old connection number line.request r put under puts) → IfSome reply (λ r. IsEarned P new connection number line.request r put under puts)
  earned_now old new number line put under puts None more is = tt
  earned_now old new number line put under puts (Some reply) more is = grind (arith, begins_before)

  pub earned_seen : (old new : Trace) (told : ℕ) (under : List Line) (puts : List Pass) → Begins old new → AreEarned P old connection told under puts → AreEarned P new connection told under puts
  earned_seen old new told [] [] more are = tt
  earned_seen old new told [] (put ∷ puts) more are = absurd are
  earned_seen old new told (line ∷ under) [] more are = absurd are
  earned_seen old new told (line ∷ under) (put ∷ puts) more are = (earned_now old new (suc told) line put under puts line.reply more are.0, are.1, earned_seen old new (suc told) under puts more are.2)

module _ (P : List Grant → Type 0) where
  pub none_before : (seen : Trace) (under : List Line) (puts : List Pass) → P [] → AreBefore P seen under puts []
  none_before seen under puts none = (none, λ k d low. absurd (omega (arith, low)))

  -- what was told comes before one more line that is put
  pub before_more : (seen : Trace) (under : List Line) (puts : List Pass) (line : Line) (put : Pass) (grants : List Grant) → Begins seen (part put).known → AreBefore P seen under puts grants → AreBefore P seen (under ++ line ∷ []) (puts ++ put ∷ []) grants
  before_more seen under puts line put grants all are = grind (arith, past_more, begins_before)

  -- and one whose reply is noted
  pub before_noted : (old new : Trace) (under : List Line) (puts : List Pass) (at : ℕ) (request : Request) (reply : Reply) (grants : List Grant) → Begins old new → slice_get under at ≡ Some (awaited request) → AreBefore P old under puts grants
      → AreBefore P new (slice_set under at (replied request reply)) puts grants
  before_noted old new under puts at request reply grants more is are = grind (arith, slice_set, begins_before, past_noted)

  -- where the client has seen more
  pub before_seen : (old new : Trace) (under : List Line) (puts : List Pass) (grants : List Grant) → Begins old new → AreBefore P old under puts grants → AreBefore P new under puts grants
  before_seen old new under puts grants more are = grind (arith, begins_before)

  -- these are the same lines
  pub before_same : (seen : Trace) (under those : List Line) (puts its : List Pass) (grants : List Grant) → those ≡ under → its ≡ puts → AreBefore P seen under puts grants → AreBefore P seen those its grants
  before_same seen under those puts its grants is to are = subst (λ (l : List Line). AreBefore P seen l its grants) (sym is) (subst (λ (l : List Pass). AreBefore P seen under l grants) (sym to) are)

  -- the first line is told its reply after them
  pub before_told : (seen : Trace) (connection told : ℕ) (line : Line) (under : List Line) (put : Pass) (puts : List Pass) (reply : Reply) (grants : List Grant) (is : IsEarned P seen connection (suc told) line.request reply put under puts)
      → AreBefore P seen (line ∷ under) (put ∷ puts) grants → AreBefore P seen under puts (grants ++ is.grant ∷ [])
  before_told seen connection told line under put puts reply grants is are =
      let later : IsLater grants is.grant =
      All-weaker (IsBefore seen (line ∷ under) (put ∷ puts)) (λ (e : Grant). key_asked e.question.request ≡ key_asked is.grant.question.request → Begins (part e.after).known (part is.grant.question.before).known)
      (λ e so same. subst (λ (p : Pass). Begins (part e.after).known (part p).known) (sym is.put_so) (so.past.0 (same ∙ ap key_asked is.of_line.of_request))) grants are.1 in (
        is.promised grants are.0 later,
        All-push (IsBefore seen under puts) grants is.grant (All-weaker (IsBefore seen (line ∷ under) (put ∷ puts)) (IsBefore seen under puts) (λ e so. record { seen_so = so.seen_so; past = so.past.1 }) grants are.1)
            (record { seen_so = is.seen_so; past = is.past }),
      )

-- The grants of the replies to the first lines, which are told after these, and come before what is under way then.
pub record Granted (P : List Grant → Type 0) (seen : Trace) (connection told count : ℕ) (under : List Line) (puts : List Pass) (replies : List Reply) (before : List Grant) : Type 0 where
  pub grants : List Grant
  pub for : AreFor connection told (asked_by (take count under)) grants
  pub are : replies_in grants ≡ replies
  pub come : AreBefore P seen (drop count under) (drop count puts) (before ++ grants)

module _ (P : List Grant → Type 0) (seen : Trace) (connection : ℕ) where
  granted_more : (told count : ℕ) (line : Line) (under : List Line) (put : Pass) (puts : List Pass) (reply : Reply) (replies : List Reply) (before : List Grant) → line.reply ≡ Some reply
      → IfSome line.reply (λ r. IsEarned P seen connection (suc told) line.request r put under puts) → AreBefore P seen (line ∷ under) (put ∷ puts) before
      → ((more : List Grant) → AreBefore P seen under puts more → Granted P seen connection (suc told) count under puts replies more) → Granted P seen connection told (suc count) (line ∷ under) (put ∷ puts) (reply ∷ replies) before
  granted_more told count line under put puts reply replies before is earned come others =
      let it : IsEarned P seen connection (suc told) line.request reply put under puts = subst (λ (r : Option Reply). IfSome r (λ x. IsEarned P seen connection (suc told) line.request x put under puts)) is earned in
      let g = it.grant in
      let more = others (before ++ g ∷ []) (before_told P seen connection told line under put puts reply before it come) in
      record {
        grants = g ∷ more.grants;
        for = (subst (λ (r : Reply). IsOfLine connection (suc told) line.request r g) (sym it.of_line.of_reply) it.of_line, more.for);
        are = ap (λ (r : Reply). r ∷ replies_in more.grants) it.of_line.of_reply ∙ ap (λ (rs : List Reply). reply ∷ rs) more.are;
        come = subst (AreBefore P seen (drop count under) (drop count puts)) (append_assoc before (g ∷ []) more.grants) more.come;
      }

  by_replies : (told count : ℕ) (line : Line) (under : List Line) (put : Pass) (puts : List Pass) (replies : List Reply) (before : List Grant) (r : Option Reply) (rs : Option (List Reply)) → line.reply ≡ r → replies_of (take count under) ≡ rs
      → option_and_then (λ reply. option_map (λ more. reply ∷ more) rs) r ≡ Some replies → IfSome line.reply (λ x. IsEarned P seen connection (suc told) line.request x put under puts) → AreBefore P seen (line ∷ under) (put ∷ puts) before
      → ((others : List Reply) → replies_of (take count under) ≡ Some others → (more : List Grant) → AreBefore P seen under puts more → Granted P seen connection (suc told) count under puts others more)
      → Granted P seen connection told (suc count) (line ∷ under) (put ∷ puts) replies before
  by_replies told count line under put puts replies before None rs is rest all earned come others = absurd (cc)
  by_replies told count line under put puts replies before (Some reply) None is rest all earned come others = absurd (cc)
  by_replies told count line under put puts replies before (Some reply) (Some more) is rest all earned come others =
      let same : reply ∷ more ≡ replies = cc in
      subst (λ (l : List Reply). Granted P seen connection told (suc count) (line ∷ under) (put ∷ puts) l before) same (granted_more told count line under put puts reply more before is earned come (others more rest))

  -- where each of the first ones has its reply, each has its grant
  pub granted_of : (count told : ℕ) (under : List Line) (puts : List Pass) (replies : List Reply) (before : List Grant) → count ≤ length under → replies_of (take count under) ≡ Some replies → AreEarned P seen connection told under puts
      → AreBefore P seen under puts before → Granted P seen connection told count under puts replies before
  granted_of zero told under puts replies before few is are come =
      record { grants = []; for = tt; are = cc; come = subst (AreBefore P seen under puts) (sym (append-nil before)) come }
  granted_of (suc count) told [] puts replies before few is are come = absurd (omega (arith, few))
  granted_of (suc count) told (line ∷ under) [] replies before few is are come = absurd are
  granted_of (suc count) told (line ∷ under) (put ∷ puts) replies before few is are come =
      by_replies told count line under put puts replies before line.reply (replies_of (take count under)) refl refl is are.0 come
      (λ others rest more before. granted_of count (suc told) under puts others more (omega (arith, few)) rest are.2 before)
