-- Records and numbers, computed: each side works out to the same answer. `fin s m e` is the number m * 2 ^ e, negative where s is true; `negsuc k` is the exponent -(k + 1).
use Rattle.std.specs.Prelude.{ℕ, ◌≡◌, refl, true, false, List, [], ◌∷◌, ◌++◌, pos, negsuc, length}
use Prim.Native.Char.{code}
use Prim.Native.String as S
use Prim.Native.String.{String}
use Rattle.std.specs.Float.{fin, binary64}
use Rattle.std.specs.Float.Ieee.{round, add}
use Rattle.csv_text.specs.Values.{significant, nearest_of}
use Rattle.csv_text.specs.Records.{Read, Refused, read_record}

-- a text in ASCII as bytes; CR and LF
abbrev bytes : String → List ℕ
bytes S.[] = []
bytes (S.◌∷◌ c s) = code c ∷ bytes s

abbrev crlf : List ℕ
crlf = 13 ∷ 10 ∷ []

abbrev lf : List ℕ
lf = 10 ∷ []

-- ---- values

-- 2 ^ -20 and -2 ^ 30 can be written exactly
least : nearest_of false 95367431640625 20 ≡ fin false 1 (negsuc 19)
unfolding nearest_of round
least = refl

most : nearest_of true 1073741824 0 ≡ fin true 1 (pos 30)
unfolding nearest_of round
most = refl

-- 1.14 is rounded once: 1 and the float nearest 0.14 add up to another float
once : nearest_of false 114 2 ≡ fin false 5134103575202365 (negsuc 51)
unfolding nearest_of round
once = refl

twice : add binary64 (nearest_of false 1 0) (nearest_of false 14 2) ≡ fin false 2567051787601183 (negsuc 50)
unfolding nearest_of round add
twice = refl

-- ---- digits

-- leading zeros do not count, on either side of the point: 0.000123 has 3; zeros behind others do: 1.000000000000000 has 16
three : length (significant (bytes "0000123")) ≡ 3
unfolding significant
three = refl

sixteen : length (significant (bytes "1000000000000000")) ≡ 16
unfolding significant
sixteen = refl

-- ---- records

-- CRLF counts, and what is behind it is not looked at
one : read_record 3 (bytes "1600000000,10.25,10.5,10.5,9.75,7,0" ++ crlf ++ bytes "second") ≡ Read (record { time = pos 1600000000; id = pos 3; «open» = fin false 41 (negsuc 1); close = fin false 21 (negsuc 0); high = fin false 21 (negsuc 0); low = fin false 39 (negsuc 1); vol = fin false 7 (pos 0); amount = fin false 0 (pos 0) }) 37
unfolding read_record
one = refl

-- the last record may end without it
last : read_record 4 (bytes "1600000000,10.25,10.5,10.5,9.75,7,0") ≡ Read (record { time = pos 1600000000; id = pos 4; «open» = fin false 41 (negsuc 1); close = fin false 21 (negsuc 0); high = fin false 21 (negsuc 0); low = fin false 39 (negsuc 1); vol = fin false 7 (pos 0); amount = fin false 0 (pos 0) }) 35
unfolding read_record
last = refl

-- quoted fields, numbers below zero, leading zeros, and a minus before a zero
quoted : read_record 0 (bytes "\"-60\",\"-5.25\",-0005.25,\"-0.00\",-5.250,\"007\",0.5" ++ crlf) ≡ Read (record { time = negsuc 59; id = pos 0; «open» = fin true 21 (negsuc 1); close = fin true 21 (negsuc 1); high = fin false 0 (pos 0); low = fin true 21 (negsuc 1); vol = fin false 7 (pos 0); amount = fin false 1 (negsuc 0) }) 49
unfolding read_record
quoted = refl

-- a minus before a zero as time
minus-zero : read_record 0 (bytes "-0,1,1,1,1,0,0") ≡ Read (record { time = pos 0; id = pos 0; «open» = fin false 1 (pos 0); close = fin false 1 (pos 0); high = fin false 1 (pos 0); low = fin false 1 (pos 0); vol = fin false 0 (pos 0); amount = fin false 0 (pos 0) }) 14
unfolding read_record
minus-zero = refl

-- the bounds of question 6, and a vol of 15 digits
bounds : read_record 2147483647 (bytes "0,0.00000095367431640625,1073741824,1073741824,0.00000095367431640625,999999999999999,0") ≡ Read (record { time = pos 0; id = pos 2147483647; «open» = fin false 1 (negsuc 19); close = fin false 1 (pos 30); high = fin false 1 (pos 30); low = fin false 1 (negsuc 19); vol = fin false 999999999999999 (pos 0); amount = fin false 0 (pos 0) }) 87
unfolding read_record
bounds = refl

-- a place above 2^31 - 1
far : read_record 2147483648 (bytes "1600000000,10.25,10.5,10.5,9.75,7,0") ≡ Refused 18
unfolding read_record
far = refl

-- no record: a bare LF, a CR alone, six fields and eight, an empty field, a space, a plus, an exponent, no digit before or behind the point, a point in the time, a quote left open or doubled
bare_lf : read_record 0 (bytes "1,1,1,1,1,0,0" ++ lf) ≡ Refused 18
unfolding read_record
bare_lf = refl

bare_cr : read_record 0 (bytes "1,1,1,1,1,0,0" ++ 13 ∷ []) ≡ Refused 18
unfolding read_record
bare_cr = refl

six : read_record 0 (bytes "1,1,1,1,1,0") ≡ Refused 18
unfolding read_record
six = refl

eight : read_record 0 (bytes "1,1,1,1,1,0,0,0") ≡ Refused 18
unfolding read_record
eight = refl

empty_field : read_record 0 (bytes "1,1,1,,1,0,0") ≡ Refused 18
unfolding read_record
empty_field = refl

space : read_record 0 (bytes "1, 1,1,1,1,0,0") ≡ Refused 18
unfolding read_record
space = refl

plus : read_record 0 (bytes "1,+1,1,1,1,0,0") ≡ Refused 18
unfolding read_record
plus = refl

exponent : read_record 0 (bytes "1,1e2,1,1,1,0,0") ≡ Refused 18
unfolding read_record
exponent = refl

no_whole : read_record 0 (bytes "1,.5,1,1,1,0,0") ≡ Refused 18
unfolding read_record
no_whole = refl

no_places : read_record 0 (bytes "1,1.,1,1,1,0,0") ≡ Refused 18
unfolding read_record
no_places = refl

time_point : read_record 0 (bytes "1.0,1,1,1,1,0,0") ≡ Refused 18
unfolding read_record
time_point = refl

left_open : read_record 0 (bytes "1,\"1,1,1,1,0,0") ≡ Refused 18
unfolding read_record
left_open = refl

doubled : read_record 0 (bytes "1,\"1\"\"1\",1,1,1,0,0") ≡ Refused 18
unfolding read_record
doubled = refl

no_text : read_record 0 (bytes "") ≡ Refused 18
unfolding read_record
no_text = refl

-- 22 places are read, and 23 are not
places_22 : read_record 0 (bytes "1,1,1,1,1,0.0000000000000000000001,0") ≡ Read (record { time = pos 1; id = pos 0; «open» = fin false 1 (pos 0); close = fin false 1 (pos 0); high = fin false 1 (pos 0); low = fin false 1 (pos 0); vol = fin false 4253529586511731 (negsuc 124); amount = fin false 0 (pos 0) }) 36
unfolding read_record
places_22 = refl

places_23 : read_record 0 (bytes "1,1,1,1,1,0.00000000000000000000001,0") ≡ Refused 18
unfolding read_record
places_23 = refl

-- 16 digits: question 19, but 18 of a later field comes first
many : read_record 0 (bytes "1000000000000000,1,1,1,1,0,0") ≡ Refused 19
unfolding read_record
many = refl

many_bad : read_record 0 (bytes "1000000000000000,1,1,1,1,0,x") ≡ Refused 18
unfolding read_record
many_bad = refl

many-places : read_record 0 (bytes "1,1.000000000000000,1,1,1,0,0") ≡ Refused 19
unfolding read_record
many-places = refl

-- then 5, 6, 7 and 8: a time of 15 digits, a price below 2^-20, a vol below zero, a low above the high
late : read_record 0 (bytes "100000000000000,1,1,1,1,0,0") ≡ Refused 5
unfolding read_record
late = refl

small : read_record 0 (bytes "1,0.00000095367431640624,1,1,1,0,0") ≡ Refused 6
unfolding read_record
small = refl

below : read_record 0 (bytes "1,1,1,1,1,-1,0") ≡ Refused 7
unfolding read_record
below = refl

reversed : read_record 0 (bytes "1,1,1,1,1.5,0,0") ≡ Refused 8
unfolding read_record
reversed = refl
