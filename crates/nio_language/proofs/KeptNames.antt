-- What the names of a line keep.
use Rattle.nio_language.specs.WordRows.{by_names}
use Rattle.nio_language.specs.declared.word_row.LineName.{LineName}
use Rattle.nio_language.specs.declared.word_row.LineNames.{LineNames}
use Rattle.nio_language.specs.declared.word_row.LineNames.TheVariants.{None, One, Two}

-- what f keeps for each name it keeps for all of them
pub kept_by_names : {A : Type 0} (P : A → Type 0) (f : LineName → A → A)
    → ((a : LineName) (x : A) → P x → P (f a x)) → (names : LineNames) (x : A) → P x → P (by_names f names x)
kept_by_names P f keeps None x here = here
kept_by_names P f keeps (One a) x here = keeps a x here
kept_by_names P f keeps (Two a b) x here = keeps a (f b x) (keeps b x here)
