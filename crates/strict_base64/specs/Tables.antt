-- What the private functions ask of the buffers that they are lent. Nobody has to believe this: each caller shows it.
use Rattle.std.specs.Prelude.{ℕ, ◌+◌, ◌-◌, ◌*◌, ◌/◌, ◌%◌}

-- how many bytes n characters make, and how many characters n bytes
abbrev pub decoded_size : ℕ → ℕ
decoded_size n = n / 4 * 3 + n % 4 * 3 / 4

abbrev pub encoded_size : ℕ → ℕ
encoded_size n = n / 3 * 4 + (n % 3 * 4 + 2) / 3

-- how many bytes the body of n bytes of lines has
abbrev pub body_size : ℕ → ℕ
body_size n = decoded_size ((n - 1) - (n - 1) / 65)
