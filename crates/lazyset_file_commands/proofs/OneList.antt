-- A text lists keys in one way at most, and none where a line of it is at fault.
use Rattle.std.proofs.Common.{◌≡◌, ◌≢◌, ℕ, ◌<◌, List, [], ◌∷◌, ◌++◌, length, get_or, true, false, refl, sym, ap, subst, ◌∙◌, arith, append_assoc, length-append}
use Rattle.std.proofs.lemmas.{Bool.{eqb-true, Decides.{nat_tests}}, List.{append_cancel_left, get_or_default, Folds.{Any-from_list_any}}}
use Rattle.std.{proofs.Math.{ListN.{get_or-append}, Seq.{get_or-append_seam}}, specs.Prelude.{◌==◌}}
use Rattle.lz_slot.{specs.{Sets.{members}, declared.format.Format.{Format}}, proofs.Texts.Cuts.{first_cut}}
use Rattle.lz_proto.specs.Lines.{has_line_feed, line_feed}
use Rattle.lazyset_file_commands.specs.Lists.{HasKeyOf, HasNoKey, IsListFaultOf, Lists, Named, keys, texts, Spelled, nothing, more, NamesKey}
use Rattle.lazyset_file_commands.{specs.declared.list.ListFault.TheVariants.{Line, Twice}, proofs.Listed.{read_of, same_place, spelled_keys}}

-- a line names one key
one_key : (named : Named) (line : List ℕ) (j k : ℕ) → NamesKey named line j → NamesKey named line k → j ≡ k
one_key (keys format) line j k one other = let first = read_of format line j one in let second = read_of format line k other in cc
one_key (texts secret name) line j k one other = one.1 ∙ sym other.1

-- what a text lists that begins with this line
pub record Begun (named : Named) (line rest ks : List ℕ) : Type 0 where
  pub key : ℕ
  pub others : List ℕ
  pub all : ks ≡ key ∷ others
  pub names : NamesKey named line key
  pub spelled : Spelled named rest others

pub not_empty : (line rest : List ℕ) → [] ≢ line ++ line_feed ∷ rest
not_empty [] rest e = cc
not_empty (b ∷ line) rest e = cc

pub begun : (named : Named) (text ks line rest : List ℕ) → Spelled named text ks → text ≡ line ++ line_feed ∷ rest → has_line_feed line ≡ false → Begun named line rest ks
begun named text ks line rest lists is clear = grind (arith, nat_tests, not_empty, first_cut, append_cancel_left)

-- a text is lines of one list of keys
none_listed : (named : Named) (text js : List ℕ) → Spelled named text js → text ≡ [] → [] ≡ js
none_listed named text js lists is = grind (arith, nat_tests, not_empty)

pub one_list : (named : Named) (text ks js : List ℕ) → Spelled named text ks → Spelled named text js → ks ≡ js
one_list named _ _ js nothing other = none_listed named [] js other refl
one_list named _ _ js (more line rest k ks clear spells spelled) other =
    let h = begun named (line ++ line_feed ∷ rest) js line rest other refl clear in
    let same : k ≡ h.key = one_key named line k h.key spells h.names in
    (λ i. same i ∷ one_list named rest ks h.others spelled h.spelled i) ∙ sym h.all

-- what a text lists of which the lines above are a list
record Goes (named : Named) (rest js ks : List ℕ) : Type 0 where
  others : List ℕ
  all : ks ≡ js ++ others
  spelled : Spelled named rest others

goes : (named : Named) (above js rest text ks : List ℕ) → Spelled named above js → text ≡ above ++ rest → Spelled named text ks → Goes named rest js ks
goes named _ _ rest text ks nothing is spelled = record { others = ks; all = refl; spelled = subst (λ (t : List ℕ). Spelled named t ks) is spelled }
goes named _ _ rest text ks (more line others j js clear spells above) is spelled =
    let h = begun named text ks line (others ++ rest) spelled (is ∙ append_assoc line (line_feed ∷ others) rest) clear in
    let tail = goes named others js rest (others ++ rest) h.others above refl h.spelled in
    let same : h.key ≡ j = one_key named line h.key j h.names spells in
    record { others = tail.others; all = h.all ∙ (λ i. same i ∷ tail.all i); spelled = tail.spelled }

-- where a text lists keys, no line of it is at fault
a_key_follows : (named : Named) (rest others : List ℕ) → Spelled named rest others → HasNoKey named rest → ⊥
a_key_follows named rest others spelled none = grind (arith, nat_tests)

pub no_bad_line : (named : Named) (text ks : List ℕ) (n : ℕ) → Lists named text ks → IsListFaultOf named text (Line n) → ⊥
no_bad_line named text ks n lists h =
    let tail = goes named h.above h.lists.told h.rest text lists.told h.lists.spelled h.whole lists.spelled in a_key_follows named h.rest tail.others tail.spelled h.fault

place_of : (ks : List ℕ) (k : ℕ) → members ks k ≡ true → (i : ℕ) × (i < length ks) × (get_or ks i 0 ≡ k)
place_of ks k has = let (i, q, low, there, is) = Any-from_list_any (λ (q : ℕ). q == k) ks has in (i, low, get_or_default ks i 0 q low ∙ there ∙ eqb-true q k is)

pub no_key_again : (format : Format) (text ks : List ℕ) (n : ℕ) → Lists (keys format) text ks → IsListFaultOf (keys format) text (Twice n) → ⊥
no_key_again format text ks n lists h =
    let tail = goes (keys format) h.above h.ks h.rest text ks (spelled_keys format h.above h.ks h.lists) h.whole (spelled_keys format text ks lists) in
    again h.fault tail
  where
    again : HasKeyOf (keys format) h.ks h.rest → Goes (keys format) h.rest h.ks ks → ⊥
    again (line, k, (clear, (others, is)), spells, has) tail =
        let next = begun (keys format) h.rest tail.others line others tail.spelled is clear in
        let at = place_of h.ks k has in
        let all : ks ≡ h.ks ++ next.key ∷ next.others = tail.all ∙ ap (λ (t : List ℕ). h.ks ++ t) next.all in
        let here : get_or ks at.0 0 ≡ k = ap (λ (t : List ℕ). get_or t at.0 0) all ∙ get_or-append h.ks (next.key ∷ next.others) 0 at.0 at.1 ∙ at.2 in
        let there : get_or ks (length h.ks) 0 ≡ k = ap (λ (t : List ℕ). get_or t (length h.ks) 0) all ∙ get_or-append_seam h.ks next.key next.others 0 ∙ one_key (keys format) line next.key k next.names spells in
        let long = ap (λ (t : List ℕ). length t) all in
        let same : at.0 ≡ length h.ks = same_place ks at.0 (length h.ks) lists.all.1 (omega (arith, long, length-append h.ks (next.key ∷ next.others), at.1)) (omega (arith, long, length-append h.ks (next.key ∷ next.others))) (here ∙ sym there) in
        omega (arith, same, at.1)
