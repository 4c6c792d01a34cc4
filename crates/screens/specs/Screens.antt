-- What is printed of a contract: the lines of its views, each view as it ranks.
use Rattle.std.specs.Prelude.{◌≡◌, ℕ, zero, suc, Bool, List, [], ◌++◌, map, Ok, Err, Result}
use Rattle.std.specs.List.{AllByRecursion}
use Rattle.book.specs.declared.rows.Side.{Side}
use Rattle.book.specs.declared.rows.Side.TheVariants.{Buy, Sell}
use Rattle.capacity.specs.Tests.{answered}
use Rattle.ranking.specs.Ranking.{Ranking}
use Rattle.reading.specs.Printing.{Line, lines_text, LineReadsBack}
use Rattle.reading.specs.Sinks.{Hearing}
use Rattle.session.specs.Faults.{told}
use Rattle.session.specs.State.{State}
use Rattle.session.specs.declared.faults.SessionFault.{SessionFault}
use Rattle.views.specs.Books.{BookLines}
use Rattle.views.specs.Capacities.{CapacityLines, contract_tests}
use Rattle.views.specs.Ranks.{capacity_before, book_before}
use Rattle.screens.specs.Lines.{capacity_line, book_line}

-- the lines of a view: Lines tells which elements it has, and printed how each is printed, as they rank
pub record ViewLines {A : Type 0} (precedes : A → A → Bool) (Lines : List A → Type 0) (printed : A → Line) (ls : List Line) : Type 0 where
  pub lines : List A
  pub all : Lines lines
  pub ranked : List A
  pub ranks : Ranking precedes lines ranked
  pub lines_are : ls ≡ map printed ranked

abbrev pub CapacityView : State → ℕ → List Line → Type 0
CapacityView s c = ViewLines capacity_before (CapacityLines s c) (capacity_line c)

abbrev pub BookView : State → ℕ → ℕ → Side → List Line → Type 0
BookView s c a side = ViewLines book_before (BookLines s c a side) (book_line c a)

-- some lines and then others
abbrev pub Then : (List Line → Type 0) → (List Line → Type 0) → List Line → Type 0
Then P Q ls = (front : List Line) × (back : List Line) × P front × Q back × (ls ≡ front ++ back)

-- the buys of an area, and then its sells
abbrev pub AreaView : State → ℕ → ℕ → List Line → Type 0
AreaView s c a = Then (BookView s c a Buy) (BookView s c a Sell)

-- the areas below n, from 0 on
unfoldable pub AreasView : State → ℕ → ℕ → List Line → Type 0
AreasView s c zero ls = ls ≡ []
AreasView s c (suc n) ls = Then (AreasView s c n) (AreaView s c n) ls

-- the capacity view, and then the book views of all areas
abbrev pub Screen : State → ℕ → List Line → Type 0
Screen s c = Then (CapacityView s c) (AreasView s c 16)

-- the lines of this form are heard, and no more
abbrev pub Heard : {S : Type 0} → Hearing S → (List Line → Type 0) → S → S → Type 0
Heard hears Form before after = (ls : List Line) × Form ls × hears before (lines_text ls) after

-- How a contract is shown: it is refused exactly by what a view of it is refused by, and then nothing is heard;
-- else the text of its views' lines is.
abbrev pub Screened : {S : Type 0} → Hearing S → State → ℕ → S → Result (Unit {0}) SessionFault → S → Type 0
Screened hears s c before (Ok done) after =
    (answered (contract_tests s c) ≡ Ok tt) × Heard hears (Screen s c) before after
Screened hears s c before (Err e) after = (answered (contract_tests s c) ≡ Err (told e)) × (after ≡ before)

-- no other lines show it
abbrev pub OneScreen : State → ℕ → Type 0
OneScreen s c = (ls ms : List Line) → Screen s c ls → Screen s c ms → ls ≡ ms

-- every number of the lines that show it is in range of its reader, and reads back
abbrev pub ScreenReadsBack : State → ℕ → Type 0
ScreenReadsBack s c = (ls : List Line) → Screen s c ls → AllByRecursion LineReadsBack ls
