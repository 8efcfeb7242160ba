pub mod RootDigits
