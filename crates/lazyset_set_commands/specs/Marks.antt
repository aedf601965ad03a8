-- Marks: keys of the last room that say what a file is for; and what a service finds and leaves of them before it begins.
use Rattle.lazyset_set_commands.specs.declared.marks.Step.TheVariants as step
use Rattle.std.specs.Prelude.{◌≡◌, ◌⊎◌, ◌≤◌, ℕ, Bool, true, false, if◌then◌else◌, IsTrue, Option, None, Some, List, [], ◌++◌, codes}
use Rattle.lz_slot.specs.{Sets.{Keys, after}, Bytes.{Holds, format_of}, Texts.{key_text}, declared.command.Command.TheVariants.{Add}}
use Rattle.lz_disk.specs.{Images.{Medium}, Devices.{Device}}
use Rattle.lz_vault.specs.Renewals.{OnlySyncs}
use Rattle.lazyset_file_commands.specs.{Marks.{texts_mark}, Refusals.{FailedOpen}, Tellings.{Tells}, declared.status.Status.{Status, TheVariants.{Refused}}}
use Rattle.lazyset_set_commands.specs.{Founds.{HasNoForeign, HasOne, IsBare, is_foreign, is_further, is_secret}, PlainReplies.{PassMayAnswer}}
use Rattle.lazyset_set_commands.specs.{Runs.{EachHolds, SessionOfSet}, Services.{RanService, RefusedService}, declared.{found.Found.{Found}, marks.Step.{Step}}}
use Rattle.lazyset_set_commands.specs.declared.marks.Wanted.{Wanted, TheVariants.{Anything, Numbers, Texts, OlderTexts, Secret}}

-- the line that adds a mark
abbrev pub mark_line : ℕ → List ℕ
mark_line k = codes "add " ++ key_text k ++ codes "\n"

-- the mark of the secret that is wanted
abbrev pub own_of : Wanted → Option ℕ
own_of (Secret m) = Some m
own_of other = None

-- what is to be done over texts under a secret, by three flags: the mark of texts, the secret's own, and no key but maybe the former
abbrev pub secret_step : Bool → Bool → Bool → Step
secret_step true true bare = step.Serve
secret_step true false true = step.Secret
secret_step true false false = step.OtherSecret
secret_step false true bare = step.OtherNumbers
secret_step false false true = step.Mark
secret_step false false false = step.OtherNumbers

-- the same of any texts, unless a key is in the way
abbrev pub unless_other : Found → Step → Step
unless_other f next = if f.foreign then step.OtherNumbers else if f.secret then step.OtherSecret else next

-- what is to be done before a service over a file of which this was found
abbrev pub step_for : Wanted → Found → Step
step_for Anything f = step.Serve
step_for Numbers f = if f.mark then step.OtherText else step.Serve
step_for Texts f = unless_other f (if f.mark then step.Serve else if f.bare then step.Mark else step.OtherNumbers)
step_for OlderTexts f = unless_other f (if f.mark then step.Serve else step.Mark)
step_for (Secret m) f = unless_other f (secret_step f.mark f.own f.bare)

-- the set with a mark, with that of texts, and with the one of a secret where there is one
abbrev pub with_mark : ℕ → Keys → Keys
with_mark k S = after (Add k) S

abbrev pub marked : Keys → Keys
marked S = with_mark texts_mark S

abbrev pub sealed : Option ℕ → Keys → Keys
sealed None S = S
sealed (Some m) S = with_mark m S

-- A disk that held the set S is left so for a service that wants this. A service of numbers has no mark. For one of texts the mark is in each
-- text that a crash may leave, before anybody is served; it was there already, or nothing was; of an older file all keys are in room 0. For one
-- under a secret both marks are in each; they were there already, or nothing was but maybe the mark of texts.
abbrev pub FitsFor : {D : Type 0} (device : D → Device) → Wanted → ℕ → Keys → D → D → Type 0
FitsFor device Anything N S old new = new ≡ old
FitsFor device Numbers N S old new = (S texts_mark ≡ false) × EachHolds (device new).medium N S
FitsFor device Texts N S old new = HasNoForeign None S × ((S texts_mark ≡ true) ⊎ ((k : ℕ) → S k ≡ false)) × EachHolds (device new).medium N (marked S)
FitsFor device OlderTexts N S old new = HasNoForeign None S × EachHolds (device new).medium N (marked S)
FitsFor device (Secret m) N S old new =
    HasNoForeign (Some m) S × (((S texts_mark ≡ true) × (S m ≡ true)) ⊎ IsBare S) × EachHolds (device new).medium N (with_mark m (marked S))

-- A service that wants this may begin.
pub record IsFit {D : Type 0} (device : D → Device) (wanted : Wanted) (old new : D) : Type 0 where
  pub honest : (device new).honest ≡ (device old).honest
  pub faults : (device old).faults ≤ (device new).faults
  pub fits : (N : ℕ) (S : Keys) → IsTrue (device old).honest → Holds (device old).medium.seen N S → FitsFor device wanted N S old new

-- what is read holds the set, and so does each text that a crash may leave
abbrev pub SurelyHolds : Medium → ℕ → Keys → Type 0
SurelyHolds disk N S = Holds disk.seen N S × EachHolds disk N S

-- where the old disk surely held a set, the new one holds it changed so
pub record Leaves {D : Type 0} (device : D → Device) (change : Keys → Keys) (old new : D) : Type 0 where
  pub honest : (device new).honest ≡ (device old).honest
  pub faults : (device old).faults ≤ (device new).faults
  pub holds : (N : ℕ) (S : Keys) → IsTrue (device old).honest → SurelyHolds (device old).medium N S → SurelyHolds (device new).medium N (change S)

-- a text is a file of some set
abbrev pub HoldsSome : List ℕ → Type 0
HoldsSome t = (N : ℕ) × (S : Keys) × Holds t N S

-- this is so of a set that is read of an honest device
abbrev pub OfSet : Device → (Keys → Type 0) → Type 0
OfSet disk P = (N : ℕ) (S : Keys) → IsTrue disk.honest → Holds disk.medium.seen N S → P S

-- A line was told that refuses a service, over a file of a set that was read and not written.
abbrev pub othertext_line : List ℕ
othertext_line = codes "othertext\n"

abbrev pub othernumbers_line : List ℕ
othernumbers_line = codes "othernumbers\n"

abbrev pub othersecret_line : List ℕ
othersecret_line = codes "othersecret\n"

abbrev pub TellsOther : Wanted → List ℕ → Device → Type 0
TellsOther Anything line old = ⊥
TellsOther Numbers line old = (line ≡ othertext_line) × OfSet old (λ S. S texts_mark ≡ true)
TellsOther Texts line old =
    ((line ≡ othernumbers_line) × OfSet old (λ S. HasOne (is_foreign None) S ⊎ ((S texts_mark ≡ false) × HasOne is_further S)))
    ⊎ ((line ≡ othersecret_line) × OfSet old (HasOne (is_secret None)))
TellsOther OlderTexts line old = ((line ≡ othernumbers_line) × OfSet old (HasOne (is_foreign None))) ⊎ ((line ≡ othersecret_line) × OfSet old (HasOne (is_secret None)))
TellsOther (Secret m) line old =
    ((line ≡ othernumbers_line) × OfSet old (λ S. HasOne (is_foreign (Some m)) S ⊎ ((S texts_mark ≡ false) × ((S m ≡ true) ⊎ ((S m ≡ false) × HasOne is_further S)))))
    ⊎ ((line ≡ othersecret_line) × OfSet old (λ S. HasOne (is_secret (Some m)) S ⊎ ((S texts_mark ≡ true) × (S m ≡ false) × HasOne is_further S)))

pub record IsOther (wanted : Wanted) (status : Status) (before after : Option (List ℕ)) (old new : Device) : Type 0 where
  pub line : List ℕ
  pub why : TellsOther wanted line old
  pub sound : IsTrue old.honest → HoldsSome old.medium.seen
  pub told : Tells before after line Refused status
  pub reads : OnlySyncs old new

-- The session of the one line that adds a mark was served and told this, or its open failed. Where it didn't say `yes` no service begins, and
-- its text is told.
pub record MarkFailed {D : Type 0} (device : D → Device) (mark : ℕ) (status : Status) (before after : Option (List ℕ)) (old new : D) : Type 0 where
  pub ran : Status
  pub rest : Option (List ℕ)
  pub text : List ℕ
  pub ends : Status
  pub told : Tells before after text ends status
  pub honest : (device new).honest ≡ (device old).honest
  pub session : (N : ℕ) (S : Keys) → IsTrue (device old).honest → Holds (device old).medium.seen N S
      → SessionOfSet (PassMayAnswer (format_of (device old).medium.seen) N) N S ran (Some (mark_line mark)) rest (Some []) (Some text) (device old) (device new)
      ⊎ FailedOpen ran (Some []) (Some text) (device old) (device new)

-- the same of the mark of a secret
abbrev pub SealFailed : {D : Type 0} (device : D → Device) → Option ℕ → Status → Option (List ℕ) → Option (List ℕ) → D → D → Type 0
SealFailed device None status before after old new = ⊥
SealFailed device (Some m) status before after old new = MarkFailed device m status before after old new

-- the mark of texts wasn't added, or it was, and that of the secret wasn't
abbrev pub MarksFailed : {D : Type 0} (device : D → Device) → Option ℕ → Status → Option (List ℕ) → Option (List ℕ) → D → D → Type 0
MarksFailed {D = D} device own status before after old new =
    MarkFailed device texts_mark status before after old new ⊎ ((mid : D) × Leaves device marked old mid × SealFailed device own status before after mid new)

-- No service begins, and it was told why. The file couldn't be read, or its keys are of another kind. Or the mark of texts wasn't added to what
-- was read. Or that of the secret wasn't added to a file without other keys, whose mark of texts was there or was added first.
abbrev pub NotBegun : {D : Type 0} (device : D → Device) → Wanted → Status → Option (List ℕ) → Option (List ℕ) → D → D → Type 0
NotBegun {D = D} device wanted status before after old new =
    RefusedService device status before after old new
    ⊎ (IsOther wanted status before after (device old) (device new)
    ⊎ (((mid : D) × OnlySyncs (device old) (device mid) × MarkFailed device texts_mark status before after mid new)
    ⊎ ((mid : D) × IsFit device Texts old mid × OfSet (device old) IsBare × SealFailed device (own_of wanted) status before after mid new)))

-- A service that wants this was served over a disk that was made fit for it first, or its open was refused then; or none begins.
abbrev pub KeptService : {D : Type 0} (device : D → Device) (wanted : Wanted) (buckets passes : ℕ) (path : Option (List ℕ)) (status : Status) (before after : Option (List ℕ)) (old new : D) → Type 0
KeptService {D = D} device wanted buckets passes path status before after old new =
    ((mid : D) × IsFit device wanted old mid × (RanService device buckets passes path status before after mid new ⊎ RefusedService device status before after mid new))
    ⊎ NotBegun device wanted status before after old new
