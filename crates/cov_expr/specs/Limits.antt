-- The limits of texts, programs, other inputs, listings and objects, as numbers.
use Rattle.std.specs.Prelude.{◌≡◌}
use Rattle.cov_expr.specs.declared.limits.TheConstants.{MOST_BLOCKS, MOST_BRACKETS, MOST_BYTES, MOST_CERT_NODES, MOST_ENTRIES, MOST_EXPRESSION_BYTES, MOST_HEIGHT, MOST_INPUT_BYTES, MOST_LISTING_BYTES, MOST_LOCKS, MOST_MARKS, MOST_NAME_BYTES, MOST_NODES, MOST_OBJECT_BYTES, MOST_PREDICATES, MOST_ROUNDS, MOST_STATEMENTS, MOST_THREADS, MOST_TRIALS, MOST_TYPES, MOST_VARIABLES}

-- Each is what it is said to be: 1 MiB of text, 4 MiB of JSON, 256 MiB of a listing, 16 MiB of an object, and so on.
pub record AreTheLimits : Type 0 where
  pub bytes : MOST_BYTES ≡ 1048576
  pub brackets : MOST_BRACKETS ≡ 200
  pub marks : MOST_MARKS ≡ 64
  pub name_bytes : MOST_NAME_BYTES ≡ 32
  pub variables : MOST_VARIABLES ≡ 256
  pub locks : MOST_LOCKS ≡ 64
  pub threads : MOST_THREADS ≡ 16
  pub statements : MOST_STATEMENTS ≡ 20000
  pub blocks : MOST_BLOCKS ≡ 64
  pub nodes : MOST_NODES ≡ 1000
  pub height : MOST_HEIGHT ≡ 64
  pub cert_nodes : MOST_CERT_NODES ≡ 10000
  pub predicates : MOST_PREDICATES ≡ 64
  pub types : MOST_TYPES ≡ 256
  pub input_bytes : MOST_INPUT_BYTES ≡ 4194304
  pub entries : MOST_ENTRIES ≡ 100000
  pub expression_bytes : MOST_EXPRESSION_BYTES ≡ 4096
  pub rounds : MOST_ROUNDS ≡ 200
  pub trials : MOST_TRIALS ≡ 1000
  pub listing_bytes : MOST_LISTING_BYTES ≡ 268435456
  pub object_bytes : MOST_OBJECT_BYTES ≡ 16777216
