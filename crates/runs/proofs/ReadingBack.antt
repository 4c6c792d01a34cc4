-- Every number of every line that a script prints reads back, and every line is ASCII, so what it prints is UTF-8.
use Rattle.std.proofs.Common.{◌≡◌, ℕ, ◌+◌, ◌<◌, ◌≤◌, Bool, true, false, cond, List, [], ◌∷◌, map, length, ℤ, None, Ok, Err, Option, Result, ◌==◌, nat_lt, sym, refl, subst, inl, inr, arith}
use Rattle.std.specs.List.{AllByRecursion}
use Rattle.std.specs.Str.{IsAscii}
use Rattle.std.proofs.ByRecursion.{All-append, All-weaker}
use Rattle.std.proofs.lemmas.Int.{ints}
use Rattle.std.proofs.lemmas.Str.{IsUtf8-from_ascii}
use Rattle.std.proofs.lemmas.Str.Ascii.{IsAscii-nil, IsAscii-cons}
use Rattle.numbers.specs.declared.NumberFault.{NumberFault}
use Rattle.numbers.specs.declared.NumberFault.TheVariants as number
use Rattle.numbers.specs.Reading.{fault_number}
use Rattle.book.specs.declared.rows.Kind.{Kind}
use Rattle.book.specs.declared.rows.Kind.TheVariants.{Non, Ioc, Ice}
use Rattle.book.specs.declared.rows.Order.{Order}
use Rattle.book.specs.Orderly.{InLimits, Parted, Fit}
use Rattle.book.specs.Ranks.{order_at}
use Rattle.capacity.specs.declared.faults.MapFault.{MapFault}
use Rattle.capacity.specs.declared.faults.MapFault.TheVariants as map_fault
use Rattle.capacity.specs.declared.faults.RegisterFault.{RegisterFault}
use Rattle.capacity.specs.declared.faults.RegisterFault.TheVariants as register
use Rattle.capacity.specs.Faults as capacity
use Rattle.capacity.specs.Meaning.{Capacity}
use Rattle.capacity.specs.Network.{Network, no_network}
use Rattle.flows.specs.Flows.{OpenIn}
use Rattle.matching.specs.declared.round.Round.{Round}
use Rattle.matching.specs.declared.round.Round.TheVariants.{Regular, Batch}
use Rattle.matching.specs.Pairs.{Executable, InRound}
use Rattle.routes.specs.Paths.{Relation, Onward, Path}
use Rattle.trades.proofs.Dealing.{executable}
use Rattle.trades.specs.Deals.{traded_contract, Deals}
use Rattle.trades.specs.Deals as deals
use Rattle.session.specs.declared.faults.SessionFault.{SessionFault}
use Rattle.session.specs.declared.faults.SessionFault.TheVariants as session
use Rattle.session.specs.Faults.{told, number_of}
use Rattle.session.specs.Rounds.{Logged, Makes, Ran}
use Rattle.session.specs.State.{State, fresh}
use Rattle.events.specs.Events.{Answer, acceptance, round_follows}
use Rattle.events.specs.Turns.{Follows}
use Rattle.history.proofs.Dealing.{deal_size}
use Rattle.history.proofs.Numbered.{all_in, at_in}
use Rattle.reading.specs.declared.faults.WordFault.{WordFault}
use Rattle.reading.specs.declared.faults.WordFault.TheVariants.{Form, Number}
use Rattle.reading.specs.declared.faults.LinkFault.TheVariants as link
use Rattle.reading.specs.Faults.{word_number, word_place, upward}
use Rattle.reading.specs.Output.{mark_line, refusal_line, place_figure}
use Rattle.reading.specs.Printing.{Line, line_text, lines_text, plain, price, ReadsBack, LineReadsBack}
use Rattle.reading.specs.Text.{onto, lines, words}
use Rattle.reading.proofs.Printing.{plain_back, amount_back, price_back, line_ascii, lines_ascii}
use Rattle.lines.specs.Asking.{Asks}
use Rattle.lines.specs.declared.faults.LineFault.TheVariants.{Session}
use Rattle.runs.specs.Lines.{Outcome, unread, turn, session_number, LineComes, LinesCome, answer_line, printed, all_printed}
use Rattle.runs.specs.Maps.{Linked, MapLine, map_printed, register_on}
use Rattle.runs.specs.Output.{trade_line}
use Rattle.runs.specs.Runs.{CallLines, MapLines, Misformed, Headed, ComesTo, Prints, PrintsReadBack, PrintsText}
use Rattle.runs.proofs.Kept.{Placed, Kept, kept_fresh, kept_called, kept_makes, kept_turned}
use Rattle.runs.proofs.Words.{most, Within, asks_within, link_within, asks_named}

-- what every line that is printed keeps
record Legible (l : Line) : Type 0 where
  letter : IsAscii l.letter
  back : LineReadsBack l

abbrev AllLegible : List Line → Type 0
AllLegible out = AllByRecursion Legible out

letter_ascii : (c : ℕ) → c < 128 → IsAscii (c ∷ [])
letter_ascii c few = IsAscii-cons c [] few IsAscii-nil

-- ---- refusals

fault_few : (f : NumberFault) → fault_number f ≤ 20
fault_few number.Form = omega arith
fault_few number.Fraction = omega arith
fault_few number.Range = omega arith

word_few : (e : WordFault) → word_number e ≤ 20
word_few Form = omega arith
word_few (Number k f) = fault_few f

register_few : (f : RegisterFault) → (capacity.told f).number ≤ 20
register_few (register.Contract d) = omega arith
register_few (register.Quantity d) = omega arith
register_few (register.Unjoined d) = omega arith
register_few (register.Figure d) = omega arith
register_few (register.Short d z) = omega arith
register_few (register.Full d) = omega arith

session_few : (f : SessionFault) → number_of (told f) ≤ 20
session_few session.Pass = omega arith
session_few session.Contract = omega arith
session_few session.Closed = omega arith
session_few session.Area = omega arith
session_few session.Limit = omega arith
session_few session.Quantity = omega arith
session_few session.Slices = omega arith
session_few session.Taken = omega arith
session_few session.Unknown = omega arith
session_few session.Full = omega arith
session_few session.Places = omega arith
session_few (session.Register f) = register_few f

map_few : (f : MapFault) → (capacity.map_told f).number ≤ 20
map_few (map_fault.Kept a b) = omega arith
map_few (map_fault.Connector a b) = omega arith

refusal_legible : (n k : ℕ) (place : Option ℕ) → n ≤ most → k ≤ 20 → place_figure place ≤ 11 → Legible (refusal_line n k place)
refusal_legible n k place a b c =
    record { letter = letter_ascii 82 (omega arith); back = (plain_back n a, (plain_back k (omega arith), (plain_back (place_figure place) (omega arith), tt))) }

place_few : (e : WordFault) → Within 11 e → place_figure (word_place e) ≤ 11
place_few Form w = omega arith
place_few (Number k f) w = w

word_legible : (n : ℕ) (e : WordFault) → n ≤ most → Within 11 e → Legible (refusal_line n (word_number e) (word_place e))
word_legible n e few w = refusal_legible n (word_number e) (word_place e) few (word_few e) (place_few e w)

-- ---- trades

shown_few : (k : Kind) (o : Order) → Parted k o → o.shown ≤ o.«open»
shown_few Non o p = omega (arith, p)
shown_few Ioc o p = omega (arith, p)
shown_few Ice o p = p.within

limit_back : (l : ℤ) → InLimits l → ReadsBack (price l)
limit_back l h = price_back l (omega (arith, ints, h.0)) (omega (arith, ints, h.1))

limit_in : (t : Bool) (l k : ℤ) → InLimits l → InLimits k → InLimits (cond t l k)
limit_in true l k h g = h
limit_in false l k h g = g

price_in : (r : Round) (i j : ℕ) (b s : Order) → InLimits b.limit → InLimits s.limit → InLimits (deals.price r i j b s)
price_in (Regular c n) i j b s h g = limit_in (b.number == n) s.limit b.limit g h
price_in (Batch c) i j b s h g = limit_in (nat_lt i j) b.limit s.limit h g

contract_in : (O : Relation) (r : Round) (os : List Order) (i j : ℕ) → InRound O r os i j → (order_at os i).contract ≡ traded_contract r
contract_in O (Regular c n) os i j h = h.1
contract_in O (Batch c) os i j h = h.1

onward_back : (O : Relation) (a q : ℕ) (xs : List ℕ) → Onward O a q xs → AllByRecursion ReadsBack (map plain xs)
onward_back O a q [] h = tt
onward_back O a q (b ∷ xs) h = (plain_back b (omega (arith, h.0.1)), onward_back O b q xs h.1)

route_back : (O : Relation) (p q : ℕ) (xs : List ℕ) → Path O p q xs → AllByRecursion ReadsBack (map plain xs)
route_back O p q [] h = absurd h.0
route_back O p q (a ∷ xs) h = (plain_back a (omega (arith, h.0.0)), onward_back O a q xs h.0.2)

module _ (s u : State) (x : Logged) (makes : Makes s x u) (k : Kept s) where
  abbrev d : Deals s.capacity s.book makes.round x.trade x.route
  d = makes.deal

  abbrev b : Order
  b = order_at s.book d.i

  abbrev o : Order
  o = order_at s.book d.j

  pair : Executable (OpenIn s.capacity (traded_contract makes.round)) s.book d.i d.j
  pair = executable (OpenIn s.capacity (traded_contract makes.round)) makes.round s.book d.i d.j d.chosen.pair

  buy_placed : Placed b
  buy_placed = all_in Placed s.book k.rows b (at_in s.book d.i pair.buy_in)

  sell_placed : Placed o
  sell_placed = all_in Placed s.book k.rows o (at_in s.book d.j pair.sell_in)

  buy_fit : Fit b
  buy_fit = all_in Fit s.book k.orderly.fit b (at_in s.book d.i pair.buy_in)

  sell_fit : Fit o
  sell_fit = all_in Fit s.book k.orderly.fit o (at_in s.book d.j pair.sell_in)

  contract_few : x.trade.contract ≤ most
  contract_few = omega (arith, d.contract, contract_in (OpenIn s.capacity (traded_contract makes.round)) makes.round s.book d.i d.j d.chosen.pair, buy_placed.contract)

  quantity_few : x.trade.quantity ≤ most
  quantity_few =
      let size = deal_size s.capacity s.book makes.round x.trade x.route k.orderly d in
      let shown = shown_few b.kind b buy_fit.1.1 in
      omega (arith, size.1, shown, buy_fit.1.2)

  price_limits : InLimits x.trade.price
  price_limits = subst InLimits (sym d.at_price) (price_in makes.round d.i d.j b o buy_fit.1.0 sell_fit.1.0)

  trade_legible : Legible (trade_line x)
  trade_legible = record {
    letter = letter_ascii 84 (omega arith);
    back = (
      plain_back x.trade.contract contract_few,
      (
        plain_back x.trade.buy (omega (arith, d.buy, buy_placed.number)),
        (
          plain_back x.trade.sell (omega (arith, d.sell, sell_placed.number)),
          (
            limit_back x.trade.price price_limits,
            (
              amount_back x.trade.quantity quantity_few,
              route_back (OpenIn s.capacity (traded_contract makes.round)) o.area b.area x.route d.route.0,
            ),
          ),
        ),
      ),
    );
  }

ran_legible : (xs : List Logged) (s t : State) → Kept s → Ran s xs t → AllLegible (map trade_line xs)
ran_legible [] s t k r = tt
ran_legible (x ∷ xs) s t k (u, makes, rest) = (trade_legible s u x makes k, ran_legible xs u t (kept_makes s u x makes k) rest)

followed_legible : (b : Bool) (xs : List Logged) (s t : State) → Kept s → Follows b s xs t → AllLegible (map trade_line xs)
followed_legible true xs s t k f = ran_legible xs s t k f
followed_legible false xs s t k f = subst (λ (ys : List Logged). AllLegible (map trade_line ys)) (sym f.0) tt

-- ---- lines of calls

answer_legible : (n : ℕ) (a : Answer) (r : ℕ) → n ≤ most → r ≤ 128 → Legible (answer_line n (upward Session (acceptance a)) r)
answer_legible n (Err f) r few rests = refusal_legible n (number_of (told f)) None few (session_few f) (omega arith)
answer_legible n (Ok x) r few rests = record { letter = letter_ascii 81 (omega arith); back = (plain_back r (omega arith), tt) }

outcome_kept : (p i : ℕ) (s t : State) (ws : List (List ℕ)) (o : Outcome) → i ≡ 0 → Kept s → LineComes p i s ws o t → Kept t
outcome_kept p i s t ws (unread e) none k h = subst Kept (sym h.1) k
outcome_kept p i s t ws (turn c a xs r) none k h = kept_turned s t p c a xs (asks_named ws c (subst (λ (j : ℕ). Asks j ws (Ok c)) none h.0)) h.1 k

outcome_legible : (n : ℕ) (s t : State) (ws : List (List ℕ)) (o : Outcome) → n ≤ most → Kept s → Kept t → LineComes session_number 0 s ws o t → AllLegible (printed n o)
outcome_legible n s t ws (unread e) few k after h = (word_legible n e few (asks_within ws e h.0), tt)
outcome_legible n s t ws (turn c a xs r) few k after h =
    let called = kept_called s k session_number c a h.1.called (asks_named ws c h.0) h.1.answered in
    All-append Legible (map trade_line xs) (answer_line n (upward Session (acceptance a)) r ∷ [])
    (followed_legible (round_follows c a) xs h.1.called t called h.1.followed)
    (answer_legible n a r few (omega (arith, h.2, after.few)), tt)

outcomes_legible : (ls : List (List ℕ)) (os : List Outcome) (n : ℕ) (s t : State) → n + length ls ≤ most → Kept s → LinesCome s ls os t → AllLegible (all_printed n os)
outcomes_legible [] os n s t few k h = subst (λ (z : List Outcome). AllLegible (all_printed n z)) (sym h.0) tt
outcomes_legible (l ∷ ls) [] n s t few k h = absurd h
outcomes_legible (l ∷ ls) (o ∷ os) n s t few k (u, first, rest) =
    let after = outcome_kept session_number 0 s u (words l) o refl k first in
    All-append Legible (printed n o) (all_printed (n + 1) os)
    (outcome_legible n s u (words l) o (omega arith) k after first)
    (outcomes_legible ls os (n + 1) u t (omega arith) after rest)

calls_legible : (m : Capacity) (n : ℕ) (ls : List (List ℕ)) (t : State) (out : List Line) → n + length ls ≤ most → CallLines m n ls t out → AllLegible out
calls_legible m n ls t out few h = subst AllLegible (sym h.printed) (outcomes_legible ls h.outcomes n (fresh session_number m) t few (kept_fresh session_number m) h.each)

-- ---- M lines

link_legible : (n : ℕ) (a : Result (Unit {0}) MapFault) → n ≤ most → AllLegible (map_printed n (upward link.Map a))
link_legible n (Ok x) few = tt
link_legible n (Err f) few = (refusal_legible n (capacity.map_told f).number None few (map_few f) (omega arith), tt)

map_line_legible : (n : ℕ) (m m' : Network) (ws : List (List ℕ)) (r : Linked) → n ≤ most → MapLine 1 m ws r m' → AllLegible (map_printed n r)
map_line_legible n m m' ws r few (inl (e, (makes, is, after))) = subst (λ (x : Linked). AllLegible (map_printed n x)) (sym is) (word_legible n e few (link_within ws e makes), tt)
map_line_legible n m m' ws r few (inr (x, (makes, connects))) = subst (λ (x : Linked). AllLegible (map_printed n x)) (sym connects.outcome) (link_legible n connects.answer few)

maps_legible : (ls : List (List ℕ)) (m : Network) (n : ℕ) (t : State) (out : List Line) → n + length ls ≤ most → MapLines m n ls t out → AllLegible out
maps_legible [] m n t out few h = calls_legible (register_on m) n [] t out few h
maps_legible (l ∷ ls) m n t out few (inl (letter, (r, m', more, (line, printed, rest)))) =
    subst AllLegible (sym printed) (All-append Legible (map_printed n r) more (map_line_legible n m m' _ r (omega arith) line) (maps_legible ls m' (n + 1) t more (omega arith) rest))
maps_legible (l ∷ ls) m n t out few (inr h) = calls_legible (register_on m) n (l ∷ ls) t out few h.1

-- ---- the script

onto_few : (c : ℕ) (ps : List (List ℕ)) → length (onto c ps) ≤ length ps + 1
onto_few c [] = omega arith
onto_few c (p ∷ ps) = omega arith

pieces : (t : Bool) (c : ℕ) (cs : List ℕ) (ps : List (List ℕ)) → length ps ≤ length cs → length (cond t ([] ∷ ps) (onto c ps)) ≤ length (c ∷ cs)
pieces true c cs ps l = omega arith
pieces false c cs ps l = omega (arith, onto_few c ps)

-- a text has no more lines than bytes
lines_few : (bs : List ℕ) → length (lines bs) ≤ length bs
lines_few [] = omega arith
lines_few (c ∷ cs) = pieces (c == 10) c cs (lines cs) (lines_few cs)

misformed_legible : (n : ℕ) (t : Option State) (out : List Line) → n ≤ most → Misformed n t out → AllLegible out
misformed_legible n t out few h = subst AllLegible (sym h.1) (word_legible n Form few tt, tt)

headed_legible : (ls : List (List ℕ)) (t : Option State) (out : List Line) → length ls ≤ 65536 → Headed ls t out → AllLegible out
headed_legible [] t out few h = misformed_legible 1 t out (omega arith) h
headed_legible (l ∷ ls) t out few (inl (is, (u, (e, h)))) = maps_legible ls no_network 2 u out (omega arith) h
headed_legible (l ∷ ls) t out few (inr h) = misformed_legible 1 t out (omega arith) h.1

comes_legible : (script : List ℕ) (t : Option State) (out : List Line) → ComesTo script t out → AllLegible out
comes_legible script t out (inl h) = misformed_legible 0 t out (omega arith) h.1
comes_legible script t out (inr h) = headed_legible (lines script) t out (omega (arith, lines_few script, h.0)) h.1

mark_legible : Legible mark_line
mark_legible = record {
  letter = IsAscii-cons 67 (84 ∷ 77 ∷ []) (omega arith) (IsAscii-cons 84 (77 ∷ []) (omega arith) (letter_ascii 77 (omega arith)));
  back = (plain_back 1 (omega arith), tt);
}

prints_legible : (script : List ℕ) (t : Option State) (out : List Line) → Prints script t out → AllLegible out
prints_legible script t out (rest, (printed, comes)) = subst AllLegible (sym printed) (mark_legible, comes_legible script t rest comes)

pub reads_back : (script : List ℕ) → PrintsReadBack script
reads_back script t out p = All-weaker Legible LineReadsBack (λ l h. h.back) out (prints_legible script t out p)

pub prints_text : (script : List ℕ) → PrintsText script
prints_text script t out p =
    let lines_are : AllByRecursion (λ l. IsAscii (line_text l)) out = All-weaker Legible (λ l. IsAscii (line_text l)) (λ l h. line_ascii l h.letter h.back) out (prints_legible script t out p) in
    IsUtf8-from_ascii (lines_text out) (lines_ascii out lines_are)
