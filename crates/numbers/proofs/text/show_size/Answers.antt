-- What `show_size` leaves to show: that there is room.
use Rattle.std.proofs.Common.{◌≡◌, ℕ, ◌/◌, ◌%◌, ◌<◌, ◌≤◌, ◌^◌, List, length, decimal, arith, ap, subst, sym, lit<}
use Rattle.std.proofs.lemmas.Fmt.{length-decimal-le}
use Rattle.numbers.proofs.text.show_size.Goals as goal

digits : (k n : ℕ) (t : List ℕ) → t ≡ decimal n → 0 < k → n < 10 ^ k → n < 2 ^ 64 → length t ≤ k
digits k n t e some few small = subst (λ x. length x ≤ k) (sym e) (length-decimal-le k n some few small)

pub push_str-requires : goal.push_str-requires
push_str-requires c = (lit< tt, omega (arith, ap length c.new-text.ensures, c.requires.sign))

pub push_str-requires-in-Count : goal.push_str-requires-in-Count
push_str-requires-in-Count c =
    let all = digits 10 c.args.n _ c.format.ensures.text (omega arith) (omega (arith, c.requires.size)) (omega (arith, c.requires.size)) in
    (lit< tt, omega (arith, all, c.push_str.ensures.len, ap length c.new-text.ensures, c.requires.sign))

pub push_str-requires-in-Megawatt : goal.push_str-requires-in-Megawatt
push_str-requires-in-Megawatt c =
    let whole = digits 9 (c.args.n / 10) _ c.format-in-Megawatt.ensures.text (omega arith) (omega (arith, c.requires.size)) (omega (arith, c.requires.size)) in
    (lit< tt, omega (arith, whole, c.push_str.ensures.len, ap length c.new-text.ensures, c.requires.sign))

pub push_str-requires-in-Megawatt-2 : goal.push_str-requires-in-Megawatt-2
push_str-requires-in-Megawatt-2 c =
    let whole = digits 9 (c.args.n / 10) _ c.format-in-Megawatt.ensures.text (omega arith) (omega (arith, c.requires.size)) (omega (arith, c.requires.size)) in
    (lit< tt, omega (arith, whole, c.push_str-in-Megawatt.ensures.len, c.push_str.ensures.len, ap length c.new-text.ensures, c.requires.sign))

pub push_str-requires-in-Megawatt-3 : goal.push_str-requires-in-Megawatt-3
push_str-requires-in-Megawatt-3 c =
    let whole = digits 9 (c.args.n / 10) _ c.format-in-Megawatt.ensures.text (omega arith) (omega (arith, c.requires.size)) (omega (arith, c.requires.size)) in
    let tenth = digits 1 (c.args.n % 10) _ c.format-in-Megawatt-2.ensures.text (omega arith) (omega arith) (omega arith) in
    (lit< tt, omega (arith, whole, tenth, c.push_str-in-Megawatt-2.ensures.len, c.push_str-in-Megawatt.ensures.len, c.push_str.ensures.len, ap length c.new-text.ensures, c.requires.sign))

pub push_str-requires-in-Euro : goal.push_str-requires-in-Euro
push_str-requires-in-Euro c =
    let whole = digits 8 (c.args.n / 100) _ c.format-in-Euro.ensures.text (omega arith) (omega (arith, c.requires.size)) (omega (arith, c.requires.size)) in
    (lit< tt, omega (arith, whole, c.push_str.ensures.len, ap length c.new-text.ensures, c.requires.sign))

pub push_str-requires-in-Euro-2 : goal.push_str-requires-in-Euro-2
push_str-requires-in-Euro-2 c =
    let whole = digits 8 (c.args.n / 100) _ c.format-in-Euro.ensures.text (omega arith) (omega (arith, c.requires.size)) (omega (arith, c.requires.size)) in
    (lit< tt, omega (arith, whole, c.push_str-in-Euro.ensures.len, c.push_str.ensures.len, ap length c.new-text.ensures, c.requires.sign))

pub push_str-requires-in-Euro-3 : goal.push_str-requires-in-Euro-3
push_str-requires-in-Euro-3 c =
    let whole = digits 8 (c.args.n / 100) _ c.format-in-Euro.ensures.text (omega arith) (omega (arith, c.requires.size)) (omega (arith, c.requires.size)) in
    let tenth = digits 1 (c.args.n / 10 % 10) _ c.format-in-Euro-2.ensures.text (omega arith) (omega arith) (omega arith) in
    (lit< tt, omega (arith, whole, tenth, c.push_str-in-Euro-2.ensures.len, c.push_str-in-Euro.ensures.len, c.push_str.ensures.len, ap length c.new-text.ensures, c.requires.sign))

pub push_str-requires-in-Euro-4 : goal.push_str-requires-in-Euro-4
push_str-requires-in-Euro-4 c =
    let whole = digits 8 (c.args.n / 100) _ c.format-in-Euro.ensures.text (omega arith) (omega (arith, c.requires.size)) (omega (arith, c.requires.size)) in
    let tenth = digits 1 (c.args.n / 10 % 10) _ c.format-in-Euro-2.ensures.text (omega arith) (omega arith) (omega arith) in
    let last = digits 1 (c.args.n % 10) _ c.format-in-Euro-3.ensures.text (omega arith) (omega arith) (omega arith) in
    (lit< tt, omega (arith, whole, tenth, last, c.push_str-in-Euro-3.ensures.len, c.push_str-in-Euro-2.ensures.len, c.push_str-in-Euro.ensures.len, c.push_str.ensures.len, ap length c.new-text.ensures, c.requires.sign))
