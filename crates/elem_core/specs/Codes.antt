-- Codes: FNV-1a of a text, its low bits, its digits; and the code of old documents.
use Rattle.std.specs.Prelude.{ℕ, ◌*◌, ◌/◌, ◌%◌, ◌^◌, List, bit_xor, fold}

-- One byte of FNV-1a with 64 bits: exclusive or, then the product with the prime.
abbrev pub fnv_step : ℕ → ℕ → ℕ
fnv_step code byte = bit_xor code byte * 1099511628211 % 2 ^ 64

-- FNV-1a with 64 bits over the bytes, from its offset basis on.
unfoldable pub text_code : List ℕ → ℕ
text_code bytes = fold fnv_step 14695981039346656037 bytes

-- The same with 32 bits.
abbrev pub old_fnv_step : ℕ → ℕ → ℕ
old_fnv_step code byte = bit_xor code byte * 16777619 % 2 ^ 32

-- The code of a text in documents of version 1.
unfoldable pub old_text_code : List ℕ → ℕ
old_text_code bytes = fold old_fnv_step 2166136261 bytes

-- The low bits of a code; the others are 0.
abbrev pub masked_code : ℕ → ℕ → ℕ
masked_code code bits = code % 2 ^ bits

-- The digit of a code at a depth: five bits, from the low end on.
abbrev pub digit_at : ℕ → ℕ → ℕ
digit_at code depth = code / 2 ^ (5 * depth) % 32
