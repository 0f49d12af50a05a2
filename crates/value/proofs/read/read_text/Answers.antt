use Rattle.std.proofs.Common.{◌≡◌, ℤ, pos, negsuc, refl, arith, rules}
use Rattle.std.specs.Option.{option_map}
use Rattle.std.proofs.lemmas.Int.{ints}
use Rattle.protocol.specs.Held.{text_bytes}
use Rattle.value.specs.Meant.{number_of}
use Rattle.value.specs.Whole.{whole_of, long_least, long_most}
use Rattle.value.proofs.Wholes.{converted, decided, unsigned_told}
use Rattle.value.proofs.read.read_text.Goals as goal

pub returns-in-In-clause-value : goal.returns-in-In-clause-value
returns-in-In-clause-value c =
    let bs = text_bytes c.args.text.now in
    let number : ℤ → ℤ = λ z. z in
    let e : option_map number c.read_whole.result ≡ whole_of (negsuc 2147483647) (pos 2147483647) bs =
    converted number (negsuc 2147483647) (pos 2147483647) _ bs c.read_whole.result (search rules) (search rules)
    (λ n r k. decided number (negsuc 2147483647) (pos 2147483647) n r _ n k (λ p. (search (rules, ints), (search (rules, ints), refl))) (λ a b. search (rules, ints)))
    c.read_whole.ensures in
    search (rules, e)

pub returns-in-Sh-clause-value : goal.returns-in-Sh-clause-value
returns-in-Sh-clause-value c =
    let bs = text_bytes c.args.text.now in
    let number : ℤ → ℤ = λ z. z in
    let e : option_map number c.read_whole-in-Sh.result ≡ whole_of (negsuc 32767) (pos 32767) bs =
    converted number (negsuc 32767) (pos 32767) _ bs c.read_whole-in-Sh.result (search rules) (search rules)
    (λ n r k. decided number (negsuc 32767) (pos 32767) n r _ n k (λ p. (search (rules, ints), (search (rules, ints), refl))) (λ a b. search (rules, ints)))
    c.read_whole-in-Sh.ensures in
    search (rules, e)

pub returns-in-USh-clause-value : goal.returns-in-USh-clause-value
returns-in-USh-clause-value c =
    let bs = text_bytes c.args.text.now in
    let e : option_map (λ n. pos n) c.read_whole-in-USh.result ≡ whole_of (pos 0) (pos 65535) bs =
    converted (λ n. pos n) (pos 0) (pos 65535) _ bs c.read_whole-in-USh.result (search rules) (search rules) (λ n r k. unsigned_told 16 65535 n r (omega arith) k) c.read_whole-in-USh.ensures in
    search (rules, e)

pub returns-in-By-clause-value : goal.returns-in-By-clause-value
returns-in-By-clause-value c =
    let bs = text_bytes c.args.text.now in
    let e : option_map (λ n. pos n) c.read_whole-in-By.result ≡ whole_of (pos 0) (pos 255) bs =
    converted (λ n. pos n) (pos 0) (pos 255) _ bs c.read_whole-in-By.result (search rules) (search rules) (λ n r k. unsigned_told 8 255 n r (omega arith) k) c.read_whole-in-By.ensures in
    search (rules, e)

pub returns-in-Lo-clause-value : goal.returns-in-Lo-clause-value
returns-in-Lo-clause-value c =
    let bs = text_bytes c.args.text.now in
    let e : option_map number_of c.read_whole-in-Lo.result ≡ whole_of long_least long_most bs =
    converted number_of long_least long_most _ bs c.read_whole-in-Lo.result (search rules) (search rules) (λ n r k. k) c.read_whole-in-Lo.ensures in
    search (rules, e)
