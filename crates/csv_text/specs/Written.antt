-- A bar as a record of RFC 4180 text, of document 02's request four: what is written, and its text. Bytes are numbers; a digit is its byte, 48 to 57. Definitions only.
use Rattle.std.specs.Prelude.{ℕ, ◌≤◌, Bool, true, false, ◌&&◌, ◌≡◌, List, [], ◌∷◌, ◌++◌, length, T, leb}
use Rattle.bars.specs.Lists.{All}

-- ---- what is written

-- a number: a minus or none, its digits before the point, and those behind it, none where there is no point
pub record Number : Type 0 where
  pub minus : Bool
  pub whole : List ℕ
  pub places : List ℕ

-- a field: a number in quotes or without
pub record Field : Type 0 where
  pub quoted : Bool
  pub number : Number

-- a record: seven fields, and whether it ends with CRLF; one that does not is the text's last
pub record Record : Type 0 where
  pub time : Field
  pub «open» : Field
  pub close : Field
  pub high : Field
  pub low : Field
  pub vol : Field
  pub amount : Field
  pub crlf : Bool

unfoldable pub is_digit : ℕ → Bool
is_digit b = leb 48 b && leb b 57

abbrev pub Digits : List ℕ → Type 0
Digits l = All (λ b. T (is_digit b)) l

-- a digit before the point, and at most 22 behind it
pub record IsNumber (n : Number) : Type 0 where
  pub some_digit : n.whole ≡ [] → ⊥
  pub whole-digits : Digits n.whole
  pub place-digits : Digits n.places
  pub few-places : length n.places ≤ 22

unfoldable pub fields_of : Record → List Field
fields_of r = r.time ∷ r.«open» ∷ r.close ∷ r.high ∷ r.low ∷ r.vol ∷ r.amount ∷ []

-- times are whole seconds
pub record IsRecord (r : Record) : Type 0 where
  pub numbers : All (λ f. IsNumber f.number) (fields_of r)
  pub whole_seconds : r.time.number.places ≡ []

-- ---- its text

-- minus, point, quote and comma; CR and LF
abbrev pub minus_byte : ℕ
minus_byte = 45

abbrev pub point_byte : ℕ
point_byte = 46

abbrev pub quote_byte : ℕ
quote_byte = 34

abbrev pub comma_byte : ℕ
comma_byte = 44

abbrev pub cr_byte : ℕ
cr_byte = 13

abbrev pub lf_byte : ℕ
lf_byte = 10

unfoldable pub signed : Bool → List ℕ → List ℕ
signed true l = minus_byte ∷ l
signed false l = l

unfoldable pub pointed : List ℕ → List ℕ
pointed [] = []
pointed (d ∷ l) = point_byte ∷ d ∷ l

unfoldable pub number_text : Number → List ℕ
unfolding signed pointed
number_text n = signed n.minus (n.whole ++ pointed n.places)

unfoldable pub in_quotes : Bool → List ℕ → List ℕ
in_quotes true l = quote_byte ∷ l ++ quote_byte ∷ []
in_quotes false l = l

unfoldable pub field_text : Field → List ℕ
unfolding in_quotes number_text
field_text f = in_quotes f.quoted (number_text f.number)

-- fields behind another one, a comma before each
unfoldable pub more_text : List Field → List ℕ
unfolding field_text
more_text [] = []
more_text (f ∷ l) = comma_byte ∷ field_text f ++ more_text l

unfoldable pub fields_text : List Field → List ℕ
unfolding field_text more_text
fields_text [] = []
fields_text (f ∷ l) = field_text f ++ more_text l

unfoldable pub end_text : Bool → List ℕ
end_text true = cr_byte ∷ lf_byte ∷ []
end_text false = []

unfoldable pub text_of : Record → List ℕ
unfolding fields_text fields_of end_text
text_of r = fields_text (fields_of r) ++ end_text r.crlf
