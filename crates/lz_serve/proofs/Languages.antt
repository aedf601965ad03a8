-- The language in which a text is read.
use Rattle.lz_serve.specs.declared.language.Language.TheVariants as language
use Rattle.lz_serve.specs.declared.reader.Reader.TheVariants as reader
use Rattle.std.specs.Prelude.{◌≡◌, ℕ, Bool, true, false, List, [], ◌∷◌, ◌++◌, ◌==◌, if◌then◌else◌, Some, None}
use Rattle.std.proofs.Common.{refl, sym, ap, subst, ◌∙◌}
use Rattle.lz_resp.specs.declared.naming.Naming.{Naming}
use Rattle.lz_serve.specs.{declared.{language.Language.{Language}}, Exchanges.{CameOfAll, EitherIsAsRead, read_as}}

-- the language that a text's first byte has told
abbrev told : Bool → Naming → Language
told starred naming = if starred then language.Frames naming else language.Lines

told_one : (starred : Bool) (naming other : Naming) → told starred naming ≡ language.Either other → ⊥
told_one true naming other is = cc
told_one false naming other is = cc

-- a text that tells no language is empty
pub untold : (naming other : Naming) (text : List ℕ) → read_as (language.Either naming) text ≡ language.Either other → (text ≡ []) × (naming ≡ other)
untold naming other [] is = (refl, cc)
untold naming other (byte ∷ text) is = absurd (told_one (byte == 0x2a) naming other is)

-- one that tells its language tells it however it goes on
pub stays_read : (spoken l : Language) (text piece : List ℕ) → ((naming : Naming) → l ≡ language.Either naming → ⊥) → read_as spoken text ≡ l → read_as spoken (text ++ piece) ≡ l
stays_read language.Lines l text piece known is = is
stays_read (language.Frames naming) l text piece known is = is
stays_read (language.Either naming) l [] piece known is = absurd (known naming (sym is))
stays_read (language.Either naming) l (byte ∷ text) piece known is = is

-- a text of which nothing has come is read in no language yet
pub untold_yet : (spoken : Language) (naming : Naming) (text : List ℕ) → spoken ≡ language.Either naming → text ≡ [] → read_as spoken text ≡ language.Either naming
untold_yet spoken naming text is nothing = ap (λ (l : Language). read_as l text) is ∙ ap (λ (t : List ℕ). read_as (language.Either naming) t) nothing

told_again : (starred : Bool) (naming : Naming) (text : List ℕ) → read_as (told starred naming) text ≡ told starred naming
told_again true naming text = refl
told_again false naming text = refl

read_again : (spoken : Language) (text : List ℕ) → read_as (read_as spoken text) text ≡ read_as spoken text
read_again language.Lines text = refl
read_again (language.Frames naming) text = refl
read_again (language.Either naming) [] = refl
read_again (language.Either naming) (byte ∷ text) = told_again (byte == 0x2a) naming (byte ∷ text)

pub either_is_as_read : EitherIsAsRead
either_is_as_read spoken text exchanges (Some (reader.Lines kept)) came = (read_again spoken text ∙ came.0, came.1)
either_is_as_read spoken text exchanges (Some (reader.Frames place)) came = (came.0, read_again spoken text ∙ came.1, came.2)
either_is_as_read spoken text exchanges (Some (reader.Unread naming)) (is, nothing, none) = (untold_yet spoken naming text is nothing, nothing, none)
either_is_as_read spoken text exchanges None came = subst (λ (l : Language). CameOfAll l text exchanges) (sym (read_again spoken text)) came
