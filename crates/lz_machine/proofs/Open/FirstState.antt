-- An open begins a sound life: its yard, its disk and its trace show the keys that it found, and nothing is under way.
use Rattle.lz_slot.specs.declared.slot.SlotRead.TheVariants as read
use Rattle.std.proofs.lemmas.Bool.{cases_Bool, cases_lt, Decides.{nat_tests}}
use Rattle.std.proofs.lemmas.List.{length-replicate, length-append, length-map, get_or-map, get_or_append_left, get_or_push, Edits.{length-between}}
use Rattle.std.proofs.{lemmas.Option.{slice_get_within, get_or_from_slice_get, none-some}, Common.{◌≡◌, inl, inr, ⊎_elim, ℕ, zero, suc, ◌+◌, ◌*◌, ◌<◌, ◌≤◌}}
use Rattle.std.proofs.Common.{Bool, true, false, List, [], ◌∷◌, length, get_or, take, map, replicate, Option, Some, None, refl, sym, ap, ◌∙◌, subst, arith}
use Rattle.std.specs.{Prelude.{slice_get}, Cmp.{both_ways}}
use mathlib.Core.Bool.{false≢true}
use Rattle.lz_slot.specs.{Rooms.{largest_of}, Sets.{Keys}, Bytes.{Holds, format_of, open_byte, header_body, slot_bytes, slot_at, held}}
use Rattle.lz_slot.specs.declared.slot.SlotRead.{SlotRead}
use Rattle.lz_disk.{specs.Images.{AreBytes, IsImage, at_rest}, proofs.Writes.{synced_image, synced_sound}}
use Rattle.lz_vault.specs.{declared.vault.Stage.TheVariants.{Closed, Open, Closing}, Stages.{Cell, Says, Reads, Suits, Keeps, IsFree, IsReadShut}}
use Rattle.lz_vault.specs.Members.{no_cell}
use Rattle.lz_allot.specs.Uses.{Use, Taken, use_of}
use Rattle.lz_list.specs.Traces.{Trace, Chain, has_key, on, chain_of, key_word, member, linking, is_settled, IsFound, IsLoose, opening, halt_word}
use Rattle.lz_list.proofs.{Traces.OpeningTrace.{opening_lawful, opening_members, opening_settled}, Chains.ChainNode.{node_has_key}}
use Rattle.lz_machine.specs.declared.actor.Actor.{Actor}
use Rattle.lz_machine.specs.Yards.{Shape, idle_actor, cell_read, use_read, slots_read, first_trace, opened_yard, actor_in, cell_in, stage_in, pin_in, IsInside}
use Rattle.lz_machine.specs.{Runs.{Caller, caller_at, opened_service}, Ledgers.{Row}, Kept.{upto}, Entries.{IsLedger}, Notes.{Notes, pending, entries}}
use Rattle.lz_machine.specs.{SlotsSound.{IsGateWritten, SlotStands, is_node, is_free, SlotsSound}, LocksSound.{LocksSound}}
use Rattle.lz_machine.specs.{CallersSound.{view_of, IsCaller, CallersSound}, LedgerSound.{LedgerSound, TailsSound}}
use Rattle.lz_machine.{specs.Sound.{TraceSound, DiskSound, ReuseSound, HasBegun, UpSound}, proofs.Ledger.Membership.{upto_all}}
use Rattle.lz_machine.proofs.{Frames.Ranges.{on_range, opening_small}, Open.FirstNodes.{off_chains, node_key, node_on, none_marked, none_removed, never_linked}}
use Rattle.lz_machine.proofs.Open.{FirstNodes.{slot_closed, node_held, key_held, held_found}, FoundSlots.{first_notes, no_limbo_read, no_opening_read, pass_of}}
use Rattle.lz_machine.proofs.{Open.FoundSlots.{read_cases, read_key, read_reads, read_says, shut_free, shut_use, slot_fits}, Steps.Invoke.{pending_none}}

module _ (t : List ℕ) where
  length-read : (n : ℕ) → length (slots_read t n) ≡ n
  length-read zero = refl
  length-read (suc n) = length-append (slots_read t n) (slot_at t n ∷ []) ∙ omega (arith, length-read n)

  slot_of : (n i : ℕ) (d : SlotRead) → i < n → get_or (slots_read t n) i d ≡ slot_at t i
  slot_of zero i d lt = absurd (omega arith)
  slot_of (suc n) i d lt = ⊎_elim
      (λ before. get_or_append_left (slots_read t n) (slot_at t n ∷ []) d i (omega (arith, before, length-read n)) ∙ slot_of n i d before)
      (λ past.
      let last : i ≡ n = omega (arith, lt, past) in
      get_or_push (slots_read t n) (slot_at t n) d i (omega (arith, last, length-read n)) ∙ ap (slot_at t) (sym last))
      (cases_lt i n)

module _ (shape : Shape) (t : List ℕ) (found : Keys) (some : 1 ≤ shape.buckets) (holds : Holds t shape.slots found) (bytes : AreBytes t) where
  abbrev N : ℕ
  N = shape.slots

  abbrev P : Trace
  P = first_trace shape t

  abbrev all_found : Chain
  all_found = held t shape.slots

  abbrev cells : List Cell
  cells = map cell_read (slots_read t shape.slots)

  abbrev uses : List Use
  uses = map use_read (slots_read t shape.slots)

  abbrev actors : List Actor
  actors = replicate shape.passes idle_actor

  abbrev callers : List (Option Caller)
  callers = replicate shape.passes None

  abbrev pins : List ℕ
  pins = replicate shape.passes 0

  abbrev notes : Notes
  notes = first_notes shape t

  is_found : IsFound N all_found
  is_found = held_found t N N holds.no_key_twice (omega arith)

  trace : TraceSound shape (opened_yard shape t).words P
  trace = grind (arith, opening_lawful, is_found, opening_small, length-replicate)

  count : length cells ≡ N
  count = length-map (slots_read t N) cell_read ∙ length-read t N

  use_count : length uses ≡ N
  use_count = length-map (slots_read t N) use_read ∙ length-read t N

  cell_is : (s : ℕ) → s < N → cell_in cells s ≡ cell_read (slot_at t s)
  cell_is s lt = get_or-map cell_read (slots_read t N) s read.Closed no_cell (omega (arith, lt, length-read t N)) ∙ ap cell_read (slot_of t N s read.Closed lt)

  use_is : (s : ℕ) → s < N → use_of uses s ≡ use_read (slot_at t s)
  use_is s lt = get_or-map use_read (slots_read t N) s read.Closed Taken (omega (arith, lt, length-read t N)) ∙ ap use_read (slot_of t N s read.Closed lt)

  -- the disk
  long : (i : ℕ) → i < N → length (slot_bytes t i) ≡ 16
  long i lt = let whole = length-between t (16 + 16 * i) (32 + 16 * i) (omega (arith, holds.size, lt)) in omega (arith, whole)

  within : (i : ℕ) (cell : Cell) → slice_get cells i ≡ Some cell → i < N
  within i cell there = omega (arith, count, slice_get_within cells i cell there)

  cell_there : (i : ℕ) (cell : Cell) → slice_get cells i ≡ Some cell → cell_read (slot_at t i) ≡ cell
  cell_there i cell there = sym (cell_is i (within i cell there)) ∙ get_or_from_slice_get cells i cell no_cell there

  keeps : (b : Bool) → Suits (format_of t) (at_rest b t) → Keeps (format_of t) cells false (at_rest b t)
  keeps b suits = record {
    suits = suits;
    sound = synced_sound (at_rest b t) bytes;
    vouches = record {
      size = λ c image. ap length (is c image) ∙ holds.size ∙ ap (λ (n : ℕ). 16 + 16 * n) (sym count);
      head = λ c image. ap (take 16) (is c image) ∙ holds.head ∙ ap (λ (n : ℕ). open_byte ∷ header_body (format_of t) n) (sym count);
      each = λ c i cell image there. subst (λ (l : List ℕ). Says (format_of t) cell.stage cell.key (slot_bytes l i)) (sym (is c image)) (says i cell there);
    };
    reads = λ live i cell there. subst (λ (q : Cell). Reads (format_of t) q.stage q.key (slot_bytes t i)) (cell_there i cell there) (read_reads (format_of t) (slot_at t i) (slot_bytes t i));
  }
    where
      is : (c : List ℕ) → IsImage (at_rest b t) c → c ≡ t
      is c image = synced_image (at_rest b t) c image

      says : (i : ℕ) (cell : Cell) → slice_get cells i ≡ Some cell → Says (format_of t) cell.stage cell.key (slot_bytes t i)
      says i cell there =
          let lt = within i cell there in
          subst (λ (q : Cell). Says (format_of t) q.stage q.key (slot_bytes t i)) (cell_there i cell there) (read_says (format_of t) (slot_at t i) (slot_bytes t i) refl (holds.no_bad_key i lt) (long i lt) (slot_fits t i bytes))

  images : (b : Bool) → Suits (format_of t) (at_rest b t) → DiskSound shape (opened_yard shape t).vault (at_rest b t)
  images b suits = record {
    slots = holds.count;
    count = count;
    keys = λ i cell there. subst (λ (q : Cell). q.key ≤ largest_of (format_of t)) (cell_there i cell there) (read_key (format_of t) (slot_at t i) (slot_bytes t i) refl);
    keeps = keeps b suits;
  }

  -- the slots
  key_is : (s k : ℕ) → s < N → slot_at t s ≡ read.Member k → key_word s P ≡ k
  key_is s k lt is = node_key shape.buckets N k s all_found is_found (node_held t N k s lt is)

  stage_open : (s k : ℕ) → s < N → slot_at t s ≡ read.Member k → cell_in cells s ≡ record { stage = Open; key = k }
  stage_open s k lt is = cell_is s lt ∙ ap cell_read is

  loose : (s : ℕ) → IsReadShut (slot_at t s) → IsLoose shape.buckets s P
  loose s shut = off_chains shape.buckets s all_found (slot_closed t N s shut)

  idle : (a : ℕ) → actor_in actors a ≡ idle_actor
  idle a = pass_of shape.passes a idle_actor

  no_slot : (a s : ℕ) → (actor_in actors a).slot ≡ Some s → ⊥
  no_slot a s is = none-some _ (sym (ap (λ (x : Actor). x.slot) (idle a)) ∙ is)

  no_node : (a s : ℕ) → (actor_in actors a).curr ≡ Some s → ⊥
  no_node a s is = none-some _ (sym (ap (λ (x : Actor). x.curr) (idle a)) ∙ is)

  stands : (s : ℕ) → s < N → SlotStands shape cells false uses actors P s
  stands s lt = elim (read_cases (slot_at t s) (holds.no_bad_key s lt)) [
    | inl m ↦
        let key = key_is s m.0 lt m.1 in
        let cell = stage_open s m.0 lt m.1 in
        is_node
        (record {
          there = ap (λ (k : ℕ). on 0 (chain_of shape.buckets k P) (suc s)) key ∙ node_on shape.buckets m.0 s all_found (node_held t N m.0 s lt m.1);
          taken = use_is s lt ∙ ap use_read m.1;
          key = ap (λ (q : Cell). q.key) cell ∙ sym key;
        })
        (inl (none_marked shape.buckets s all_found, inr (ap (λ (q : Cell). q.stage) cell)))
    | inr shut ↦ is_free (loose s shut) (use_is s lt ∙ shut_use (slot_at t s) shut) (subst (λ (q : Cell). IsFree q.stage) (sym (cell_is s lt)) (shut_free (slot_at t s) shut))
  ]

  no_halt : (buckets : ℕ) (found : Chain) → halt_word (opening buckets found) ≡ 0
  no_halt buckets [] = refl
  no_halt buckets (f ∷ found) = no_halt buckets found

  slots : SlotsSound shape cells false uses actors P
  slots = record {
    count = use_count;
    each = stands;
    hand = λ a s is. absurd (no_slot a s is);
    out = λ a s is. absurd (no_node a s is.node);
    one_hand = λ a b s is other. absurd (no_slot a s is);
    one_out = λ a b s is other. absurd (no_node a s is.node);
    hand_out = λ a b s is other. absurd (no_slot a s is);
    closed = λ a s is shuts. absurd (no_node a s is);
    opened = λ a s is unlocks. absurd (no_slot a s is);
    added = λ k s key there settled. no_opening_read (slots_read t N) s;
    removed = λ k s key there is. absurd (false≢true (sym (none_removed shape.buckets (linking k P) all_found) ∙ is));
    halted = λ is. absurd (omega (arith, is, no_halt shape.buckets all_found));
  }

  locks : LocksSound shape (opened_yard shape t).locks actors P
  locks = grind (arith, length-replicate, idle)

  -- nobody is inside
  no_caller : (a : ℕ) → caller_at callers a ≡ None
  no_caller a = pass_of shape.passes a None

  outside : (a : ℕ) → pin_in pins a ≡ 0
  outside a = pass_of shape.passes a 0

  not_inside : (a : ℕ) → IsInside (pin_in pins a) → ⊥
  not_inside a inside = omega (arith, outside a, inside)

  waits : (a : ℕ) → IsCaller (view_of shape (opened_yard shape t).vault actors a) (pin_in pins a) (caller_at callers a) P P None
  waits a = grind (arith, no_caller, idle)

  all_wait : CallersSound shape (opened_yard shape t).vault pins actors callers P notes
  all_wait = grind (arith, nat_tests, length-replicate, not_inside, waits)

  reuse : ReuseSound shape pins uses actors P notes.begun
  reuse = grind (arith, nat_tests, outside, no_limbo_read, not_inside)

  none_pending : (m : ℕ) → pending callers notes.changed m ≡ []
  none_pending zero = refl
  none_pending (suc m) = cc (none_pending m, pending_none (caller_at callers (suc m)))

  no_entries : entries shape.passes callers notes ≡ []
  no_entries = none_pending shape.passes

  empty_ledger : IsLedger (length P) P [] [] []
  empty_ledger = grind arith

  ledger : (calls : ℕ) → LedgerSound (length P) calls shape.passes callers P [] notes
  ledger calls = grind (arith, nat_tests, no_entries, empty_ledger, none-some, no_caller)

  not_written : (s : ℕ) → stage_in cells s ≡ Open → IsGateWritten (stage_in cells s) → ⊥
  not_written s opened (inl is) = let e : Open ≡ Closing = sym opened ∙ is in absurd cc
  not_written s opened (inr is) = let e : Open ≡ Closed = sym opened ∙ is in absurd cc

  -- a node's gate is open
  node_open : (s : ℕ) → on 0 (chain_of shape.buckets (key_word s P) P) (suc s) ≡ true → stage_in cells s ≡ Open
  node_open s there =
      let lt = on_range shape.buckets N P _ s trace.lawful there in
      elim (read_cases (slot_at t s) (holds.no_bad_key s lt)) [
        | inl m ↦ ap (λ (q : Cell). q.stage) (stage_open s m.0 lt m.1)
        | inr shut ↦ absurd (false≢true (sym (loose s shut _) ∙ there))
      ]

  tails : (rows : List Row) → TailsSound shape cells actors P callers rows []
  tails rows = grind (arith, nat_tests, no_slot, not_written, node_open)

  -- the trace shows the keys that were found
  has_found : (k : ℕ) → has_key k all_found ≡ found k
  has_found k = both_ways (has_key k all_found) (found k)
      (λ has. (holds.set k).1 (key_held t N k has))
      (λ is. let at = (holds.set k).0 is in node_has_key k at.0 all_found (node_held t N k at.0 at.1 at.2))

  all_of_it : upto (length P) P ≡ P
  all_of_it = upto_all (length P) P (omega arith)

  linked_key : (k : ℕ) → 0 < linking k P → has_key k all_found ≡ true
  linked_key k lt = grind (arith, cases_Bool, never_linked)

  began : HasBegun (length P) found P
  began = record {
    members = λ k. ap (member k) all_of_it ∙ opening_members shape.buckets k all_found ∙ has_found k;
    sure = λ k linked.
        let has = linked_key k (subst (λ (q : Trace). 0 < linking k q) all_of_it linked) in
        let shown = opening_settled shape.buckets k all_found has in (
          ap (member k) all_of_it ∙ shown.member,
          ap (λ (q : Trace). is_settled (linking k q) q) all_of_it ∙ shown.settled,
        );
  }

  pub opened_up : (b : Bool) (calls : ℕ) → Suits (format_of t) (at_rest b t) → UpSound (length P) calls (opened_service shape t) (at_rest b t) (record { start = found; history = [] }) P notes
  opened_up b calls suits = record {
    began = began;
    sound = record {
      trace = trace;
      images = images b suits;
      slots = slots;
      locks = locks;
      callers = all_wait;
      reuse = reuse;
      ledger = ledger calls;
      tails = tails (entries shape.passes callers notes);
    };
    after = record { each = λ a caller r is. absurd (none-some _ (sym (no_caller a) ∙ is)) };
    since = λ a inside. absurd (not_inside a inside);
  }
