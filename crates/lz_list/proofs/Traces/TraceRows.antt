-- Worked rows of traces: one bucket, one key added, settled and taken out again.
use Rattle.std.proofs.Common.{◌≡◌, ℕ, ◌^◌, ◌+◌, [], ◌∷◌, List, refl, inl, inr, arith}
use Rattle.lz_list.specs.declared.publishing.{Change.TheVariants.{Added, Removed}, Publishing.TheVariants.{Linked as linked, Marked as marked}}
use Rattle.lz_list.specs.declared.publishing.Publishing.TheVariants.{Unlinked as unlinked, Settled as settled, KeyPrepared as key_prepared}
use Rattle.lz_list.specs.{declared.{publishing.Publishing.TheVariants.{LinkPrepared as link_prepared}, place.Place.TheVariants.{Node}}, Words.{Words, redirect}}
use Rattle.lz_list.specs.{Lists.{MayLinkAt, MayUnlinkAt}, Traces.{Trace, Lawful, bucket_of, SettledYes, SettledNo, words_of_trace, opening, keys_shown}}

abbrev one_key : Trace
one_key = settled 0 Added ∷ linked 5 0 1 ∷ link_prepared 0 0 ∷ key_prepared 0 5 ∷ []

one_key_lawful : Lawful 1 4 one_key
unfolding bucket_of
one_key_lawful = (
  tt,
  (
    record { in_range = omega arith; loose = λ b. refl; no_member = refl; no_node = refl; key = refl; link = refl; no_mark = refl; not_added = refl; not_removed = refl },
    ((λ b. refl), ((λ b. refl), tt)),
  ),
)

one_key_settled : SettledYes one_key one_key 5
one_key_settled = record { begins = inl refl; member = refl; settled = refl }

abbrev gone : Trace
gone = unlinked 5 0 1 ∷ settled 0 Removed ∷ marked 5 0 1 ∷ one_key

gone_lawful : Lawful 1 4 gone
unfolding bucket_of
gone_lawful = (record { stands = refl; key = refl; no_member = refl; removed = refl }, (tt, ((refl, refl, refl), one_key_lawful)))

gone_settled : SettledNo gone gone 5
gone_settled = record { begins = inl refl; no_member = refl; settled = inr refl }

-- the words after it: the slot keeps its key, its bits and its old link
abbrev three_words : Words → List (List ℕ)
three_words w = w.heads ∷ w.links ∷ w.keys ∷ []

gone_words : three_words (words_of_trace 2 1 1 gone) ≡ (0 ∷ []) ∷ ((2 ^ 32 + 2 ^ 33 + 2 ^ 34) ∷ 0 ∷ []) ∷ (5 ∷ 0 ∷ []) ∷ []
unfolding bucket_of
gone_words = refl

-- three keys in two buckets, as an open finds them: 8 and 4 in the first, 5 in the second
opened_words : three_words (words_of_trace 3 2 1 (opening 2 ((8, 0) ∷ (5, 1) ∷ (4, 2) ∷ [])))
    ≡ (3 ∷ 2 ∷ []) ∷ ((2 ^ 33) ∷ (2 ^ 33) ∷ (1 + 2 ^ 33) ∷ []) ∷ (8 ∷ 5 ∷ 4 ∷ []) ∷ []
unfolding bucket_of
opened_words = refl

opened_keys : keys_shown (opening 2 ((8, 0) ∷ (5, 1) ∷ (4, 2) ∷ [])) ≡ 4 ∷ 5 ∷ 8 ∷ []
unfolding bucket_of
opened_keys = refl

-- one bucket with 10 in slot 0 and 20 in slot 1; slot 2 holds 15, and is ready to be linked between them
abbrev ready : Words
ready = record { heads = 1 ∷ []; links = 2 ∷ 0 ∷ 2 ∷ []; keys = 10 ∷ 20 ∷ 15 ∷ []; pins = []; halt = 0 }

ready_may_link : MayLinkAt ready (Node 0) 2
unfolding bucket_of
ready_may_link = record {
  slot = omega arith;
  before = record {
    bucket = tt;
    chain = (10, 0) ∷ (20, 1) ∷ [];
    shown = record {
      shows = (refl, refl, omega arith, (refl, refl, omega arith, refl));
      within = (refl, (refl, tt));
      in_range = (omega arith, (omega arith, tt));
    };
    stands = refl;
    below = omega arith;
  };
  above = inr (omega arith);
  next = refl;
}

-- and unlinked again
linked_words : redirect ready (Node 0) 3 ≡ record ready { links = 3 ∷ 0 ∷ 2 ∷ [] }
linked_words = refl

linked_may_unlink : MayUnlinkAt (redirect ready (Node 0) 3) (Node 0) 2
unfolding bucket_of
linked_may_unlink = record {
  before = record {
    bucket = tt;
    chain = (10, 0) ∷ (15, 2) ∷ (20, 1) ∷ [];
    shown = record {
      shows = (refl, refl, omega arith, (refl, refl, omega arith, (refl, refl, omega arith, refl)));
      within = (refl, (refl, (refl, tt)));
      in_range = (omega arith, (omega arith, (omega arith, tt)));
    };
    stands = refl;
    below = omega arith;
  };
  next = refl;
}
